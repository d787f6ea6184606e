use Rattle.std.proofs.Common.{◌≡◌, ◌<◌, None, Some, ap, sym, ◌∙◌, filter, length, option_map, slice_get, subst}
use Rattle.pad_model.specs.Cell.{cells_at}
use Rattle.pad_model.specs.Views.{IsViewOf}
use Rattle.block_seq.specs.Plain.{cell_of, is_shown}
use Rattle.block_seq.proofs.Kept.{cell-cells_of, known-shown}
use Rattle.block_seq.proofs.plain.PlainSeqSequence.shown_cell.Goals as goal

pub returns-in_err-cell : goal.returns-in_err-cell
returns-in_err-cell c =
    let none : slice_get (filter (is_shown c.args.rev) c.self.inside.cells.items) c.args.place ≡ None =
    ap (λ l. slice_get (filter (is_shown c.args.rev) l) c.args.place) (sym c.as_slice.ensures.value)
    ∙ sym c.in_err-cell.ensures in
    let gone : slice_get (cells_at c.args.rev c.args.self.now) c.args.place ≡ None =
    ap (λ l. slice_get (cells_at c.args.rev l) c.args.place) (sym c.self.view_is)
    ∙ cell-cells_of c.self.inside.authors.items c.args.rev c.self.inside.cells.items c.args.place
    ∙ ap (option_map (cell_of c.self.inside.authors.items)) none in
    rw (c.from_residual.ensures, gone) tt

pub lend-requires : goal.lend-requires
lend-requires c =
    subst (λ l. c.in_ok-cell.cell.author < length l) (sym c.as_slice-2.ensures.value)
    (known-shown c.self.inside.authors.items c.args.rev c.self.inside.cells.items c.args.place c.in_ok-cell.cell
    c.self.invariant.known
    (ap (λ l. slice_get (filter (is_shown c.args.rev) l) c.args.place) (sym c.as_slice.ensures.value)
    ∙ sym c.in_ok-cell.ensures))

pub returns : goal.returns
returns c =
    let found : slice_get (filter (is_shown c.args.rev) c.self.inside.cells.items) c.args.place ≡ Some c.in_ok-cell.cell =
    ap (λ l. slice_get (filter (is_shown c.args.rev) l) c.args.place) (sym c.as_slice.ensures.value)
    ∙ sym c.in_ok-cell.ensures in
    let shown : slice_get (cells_at c.args.rev c.args.self.now) c.args.place
    ≡ Some (cell_of c.self.inside.authors.items c.in_ok-cell.cell) =
    ap (λ l. slice_get (cells_at c.args.rev l) c.args.place) (sym c.self.view_is)
    ∙ cell-cells_of c.self.inside.authors.items c.args.rev c.self.inside.cells.items c.args.place
    ∙ ap (option_map (cell_of c.self.inside.authors.items)) found in
    rw shown (subst (λ l. IsViewOf (Some c.lend.result) (Some (cell_of l c.in_ok-cell.cell))) c.as_slice-2.ensures.value
    c.lend.ensures)
