use Rattle.std.proofs.Common.{◌≡◌, sym, ap, ◌∙◌, filter, slice_get, option_map, None, Some}
use Rattle.pad_model.specs.Cell.{cell_stamp_at}
use Rattle.block_seq.specs.Plain.{is_shown}
use Rattle.block_seq.specs.declared.place.PlainCell.{PlainCell}
use Rattle.block_seq.proofs.Kept.{cell_stamp_at-cells_of}
use Rattle.block_seq.proofs.plain.PlainSeqSequence.stamp_at.Goals as goal

pub returns : goal.returns
returns c =
    ap (option_map (λ (x : PlainCell). x.stamp)) (c.in_ok-cell.ensures
    ∙ ap (λ l. slice_get (filter (is_shown c.args.rev) l) c.args.place) c.as_slice.ensures.value)
    ∙ sym (cell_stamp_at-cells_of c.self.inside.authors.items c.args.rev c.self.inside.cells.items c.args.place)
    ∙ ap (λ l. cell_stamp_at c.args.rev l c.args.place) c.self.view_is

pub returns-in_err-cell : goal.returns-in_err-cell
returns-in_err-cell c =
    c.from_residual.ensures ∙ (ap (option_map (λ (x : PlainCell). x.stamp)) (c.in_err-cell.ensures
    ∙ ap (λ l. slice_get (filter (is_shown c.args.rev) l) c.args.place) c.as_slice.ensures.value)
    ∙ sym (cell_stamp_at-cells_of c.self.inside.authors.items c.args.rev c.self.inside.cells.items c.args.place)
    ∙ ap (λ l. cell_stamp_at c.args.rev l c.args.place) c.self.view_is)
