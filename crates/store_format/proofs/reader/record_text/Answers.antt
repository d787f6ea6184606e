use Rattle.std.proofs.Common.{string_bytes}
use Rattle.std.proofs.lemmas.Str.{IsUtf8-string_bytes}
use Rattle.serde_json.specs.View.{view}
use Rattle.store_format.specs.Forms.{IsSayableRecord, record_data}
use Rattle.store_format.specs.declared.entry.StoreLine.TheVariants as entry
use Rattle.store_format.proofs.Texts.{record_again, record_has_no_float, record_is_shallow, told, valued, written}
use Rattle.store_format.proofs.reader.record_text.Goals as goal

pub returns-clause-text : goal.returns-clause-text
returns-clause-text c =
    written string_bytes c.to_string.result (view c.in_ok-value.value)
    (record_data c.args.at c.args.together c.args.kept.now) c.in_ok-value.ensures
    (record_has_no_float c.args.at c.args.together c.args.kept.now) c.to_string.ensures.text

pub returns-clause-value : goal.returns-clause-value
returns-clause-value c =
    valued string_bytes c.to_string.result (view c.in_ok-value.value)
    (record_data c.args.at c.args.together c.args.kept.now) (λ s. IsUtf8-string_bytes s) c.in_ok-value.ensures
    (record_is_shallow c.args.at c.args.together c.args.kept.now) c.to_string.ensures.reads_back

pub returns-clause-tells : goal.returns-clause-tells
returns-clause-tells c =
    told string_bytes c.to_string.result (view c.in_ok-value.value) (record_data c.args.at c.args.together c.args.kept.now)
    (entry.Record c.args.kept.now) (IsSayableRecord c.args.kept.now) (λ s. IsUtf8-string_bytes s) c.in_ok-value.ensures
    (record_has_no_float c.args.at c.args.together c.args.kept.now) (record_is_shallow c.args.at c.args.together c.args.kept.now)
    (record_again c.args.at c.args.together c.args.kept.now) c.to_string.ensures.text c.to_string.ensures.reads_back
