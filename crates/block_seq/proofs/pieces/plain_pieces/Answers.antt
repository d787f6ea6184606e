use Rattle.std.proofs.Common.{◌≡◌, suc, ◌+◌, ◌∷◌, ◌++◌, [], drop, drop-cons, ap, ap₂, sym, ◌∙◌, arith, sum_by}
use Rattle.std.proofs.Common.{◌<◌, length}
use Rattle.blocks.proofs.Entries.{each_get}
use Rattle.pad_model.specs.Pieces.{piece_of, old_len}
use Rattle.pad_model.specs.declared.piece.Piece.TheVariants.{Insert}
use Rattle.pad_model.specs.declared.who.Author.{Author}
use Rattle.block_seq.specs.PieceLists.{with_piece, with_pieces}
use Rattle.block_seq.specs.Plain.{cell_of, cells_of}
use Rattle.block_seq.specs.declared.place.PlainCell.{PlainCell}
use Rattle.block_seq.proofs.PieceLists.{goes-on, sum-withs}
use Rattle.block_seq.proofs.RowPieces.{cell-dropped, cell-inserted, cell-kept, cell-passed, cell-small}
use Rattle.block_seq.proofs.RowLists.{author_here, get_here}
use Rattle.block_seq.proofs.pieces.plain_pieces.Goals as goal
use Rattle.block_seq.proofs.pieces.plain_pieces.Goals.{then-is_shown+then-stays+in_ok-add_kept, then-is_shown+else-stays+in_ok-add_dropped, else-is_shown+then-stays-2+in_ok-add_inserted, else-is_shown+else-stays-2}

pub loop-cell-preserved : goal.loop-cell-preserved
loop-cell-preserved c =
    let inv = c.loop-cell.invariant in
    let rev = c.args.rev in
    let to = c.args.to in
    let authors = c.args.authors.now in
    let cells = c.args.cells.now in
    let cell = c.cell-item.result in
    let old = c.loop-cell.pieces.items in
    let made : c.if-is_shown.pieces.items ≡ with_pieces old (piece_of rev to (cell_of authors cell)) =
    elim c.if-is_shown.branch [
      | then-is_shown+then-stays+in_ok-add_kept w ↦
          ap (λ v. v.items) w.pieces-is ∙ w.in_ok-add_kept.ensures
          ∙ ap (with_pieces old) (sym (cell-kept rev to authors cell (sym c.is_shown.ensures ∙ w.if-is_shown.true)
          (sym c.is_shown-stays.ensures ∙ w.if-stays.true)))
      | then-is_shown+else-stays+in_ok-add_dropped w ↦
          ap (λ v. v.items) w.pieces-is ∙ w.in_ok-add_dropped.ensures
          ∙ ap (with_pieces old) (sym (cell-dropped rev to authors cell (sym c.is_shown.ensures ∙ w.if-is_shown.true)
          (sym c.is_shown-stays.ensures ∙ w.if-stays.false)))
      | else-is_shown+then-stays-2+in_ok-add_inserted w ↦
          ap (λ v. v.items) w.pieces-is ∙ w.in_ok-add_inserted.ensures
          ∙ ap (λ (a : Author). with_piece old (Insert a (cell.character ∷ [])))
          (sym (author_here authors cell.author w.index-authors-cell.result (each_get (λ (x : PlainCell). x.author < length authors) cells
          c.loop-cell.cell-index cell c.requires (get_here cells c.loop-cell.cell-index cell c.loop-cell-test.true c.cell-item.is)) w.index-authors-cell.is))
          ∙ ap (with_pieces old) (sym (cell-inserted rev to authors cell (sym c.is_shown.ensures ∙ w.if-is_shown.false)
          (sym c.is_shown-stays.ensures ∙ w.if-stays-2.true)))
      | else-is_shown+else-stays-2 w ↦
          ap (λ v. v.items) w.pieces-is
          ∙ ap (with_pieces old) (sym (cell-passed rev to authors cell (sym c.is_shown.ensures ∙ w.if-is_shown.false)
          (sym c.is_shown-stays.ensures ∙ w.if-stays-2.false)))
    ] in
    let steps : cells_of authors (drop c.loop-cell.cell-index cells)
    ≡ cell_of authors cell ∷ cells_of authors (drop (c.loop-cell.cell-index + 1) cells) =
    ap (cells_of authors) (drop-cons cells c.loop-cell.cell-index cell c.loop-cell-test.true
    ∙ ap₂ (λ (y : PlainCell) n. y ∷ drop n cells) (sym c.cell-item.is)
    (let e : suc c.loop-cell.cell-index ≡ c.loop-cell.cell-index + 1 = omega arith in e)) in
    let goes = goes-on (piece_of rev to) (cell_of authors cell) (cells_of authors (drop c.loop-cell.cell-index cells))
    (cells_of authors (drop (c.loop-cell.cell-index + 1) cells)) inv.done old c.if-is_shown.pieces.items _ steps
    inv.pieces inv.all made in
    let sum = ap (sum_by old_len) made ∙ sum-withs old (piece_of rev to (cell_of authors cell)) in
    let one = cell-small rev to authors cell in
    record {
      done = inv.done ++ piece_of rev to (cell_of authors cell);
      pieces = goes.0;
      all = goes.1;
      small = omega (arith, sum, one, inv.small);
    }
