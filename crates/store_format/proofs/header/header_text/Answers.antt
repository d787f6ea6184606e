use Rattle.std.proofs.Common.{string_bytes, refl, lit≤}
use Rattle.std.proofs.lemmas.Str.{IsUtf8-string_bytes}
use Rattle.serde_json.specs.View.{view}
use Rattle.store_format.specs.Entries.{header_data}
use Rattle.store_format.specs.declared.entry.StoreLine.TheVariants as entry
use Rattle.store_format.proofs.Texts.{header_again, told, told_always, written}
use Rattle.store_format.proofs.header.header_text.Goals as goal

pub returns-clause-text : goal.returns-clause-text
returns-clause-text c =
    written string_bytes c.to_string.result (view c.in_ok-value.value) (header_data c.args.pad.now c.args.replica)
    c.in_ok-value.ensures refl c.to_string.ensures.text

pub returns-clause-tells : goal.returns-clause-tells
returns-clause-tells c =
    told_always string_bytes c.to_string.result
    (entry.Header (record { pad = c.args.pad.now; replica = c.args.replica }))
    (told string_bytes c.to_string.result (view c.in_ok-value.value) (header_data c.args.pad.now c.args.replica)
    (entry.Header (record { pad = c.args.pad.now; replica = c.args.replica })) (Unit {0})
    (λ s. IsUtf8-string_bytes s) c.in_ok-value.ensures
    refl (lit≤ tt) (λ u. header_again c.args.pad.now c.args.replica) c.to_string.ensures.text
    c.to_string.ensures.reads_back)
