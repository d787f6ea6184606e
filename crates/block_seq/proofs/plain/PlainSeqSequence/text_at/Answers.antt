use Rattle.std.proofs.Common.{sym, ap, ◌∙◌, filter, map}
use Rattle.pad_model.specs.Cell.{text_at}
use Rattle.block_seq.specs.Plain.{is_shown}
use Rattle.block_seq.proofs.Kept.{text_at-cells_of}
use Rattle.block_seq.proofs.plain.PlainSeqSequence.text_at.Goals as goal

pub returns : goal.returns
returns c =
    c.from_vec.ensures ∙ c.in_ok-shown_text.ensures ∙ ap (λ l. map (λ x. x.character) (filter (is_shown c.args.rev) l))
    c.as_slice.ensures.value
    ∙ sym (text_at-cells_of c.self.inside.authors.items c.args.rev c.self.inside.cells.items)
    ∙ ap (text_at c.args.rev) c.self.view_is
