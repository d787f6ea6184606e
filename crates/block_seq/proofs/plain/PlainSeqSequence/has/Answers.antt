use Rattle.std.proofs.Common.{sym, ap, ◌∙◌}
use Rattle.pad_model.specs.Cell.{character_of}
use Rattle.pad_model.specs.Legal.{has_stamp}
use Rattle.pad_model.specs.Stamp.{same_stamp}
use Rattle.pad_model.proofs.Maps.{list_any-map}
use Rattle.block_seq.specs.Plain.{cell_of, kept_character}
use Rattle.block_seq.proofs.plain.PlainSeqSequence.has.Goals as goal

pub returns : goal.returns
returns c =
    c.has.ensures ∙ ap (λ l. has_stamp kept_character l c.args.stamp) c.as_slice.ensures.value
    ∙ sym (list_any-map (cell_of c.self.inside.authors.items)
    (λ x. same_stamp x.stamp c.args.stamp) c.self.inside.cells.items)
    ∙ ap (λ l. has_stamp character_of l c.args.stamp) c.self.view_is
