use Rattle.std.proofs.Common.{sym, ap, ◌∙◌, length, filter}
use Rattle.pad_model.specs.Cell.{cells_at}
use Rattle.block_seq.specs.Plain.{is_shown}
use Rattle.block_seq.proofs.Kept.{length-cells_at}
use Rattle.block_seq.proofs.plain.PlainSeqSequence.len_at.Goals as goal

pub returns : goal.returns
returns c =
    c.count_shown.ensures ∙ ap (λ l. length (filter (is_shown c.args.rev) l)) c.as_slice.ensures.value
    ∙ sym (length-cells_at c.self.inside.authors.items c.args.rev c.self.inside.cells.items)
    ∙ ap (λ l. length (cells_at c.args.rev l)) c.self.view_is
