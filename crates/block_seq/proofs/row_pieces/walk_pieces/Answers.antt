use Rattle.std.proofs.Common.{◌++◌, ap, ◌∙◌, arith, sum_by, subst, length}
use Rattle.std.specs.List.{AllByRecursion}
use Rattle.std.proofs.lemmas.List.Sums.{sum_by-cons}
use Rattle.pad_model.specs.Pieces.{old_len}
use Rattle.blocks.specs.Cells.{IsWithin}
use Rattle.blocks.specs.declared.block.Block.{Block}
use Rattle.block_seq.specs.PieceLists.{block_pieces}
use Rattle.block_seq.proofs.PieceLists.{goes-on, sum-withs}
use Rattle.block_seq.proofs.RowPieces.{block-small}
use Rattle.block_seq.proofs.row_pieces.walk_pieces.Goals as goal

pub loop-block-preserved : goal.loop-block-preserved
loop-block-preserved c =
    let inv = c.loop-block.invariant in
    let rev = c.args.rev in
    let to = c.args.to in
    let authors = c.args.row.authors.now in
    let text = c.args.row.text.now in
    let b = c.in-Some.block.now in
    let steps = c.in-Some.ensures.steps in
    let made = c.in_ok-add_block.ensures in
    let goes = goes-on (block_pieces rev to authors text) b c.loop-block.block-iterator c.next.new.self inv.done
    c.loop-block.pieces.items _ _ steps inv.pieces inv.all made in
    let within = subst (AllByRecursion (IsWithin (length authors) (length text))) steps inv.within in
    let sum = ap (sum_by old_len) made ∙ sum-withs c.loop-block.pieces.items (block_pieces rev to authors text b) in
    let one = block-small rev to authors text b in
    let all = ap (sum_by (λ (x : Block). x.len)) steps ∙ sum_by-cons (λ (x : Block). x.len) b c.next.new.self in
    record {
      done = inv.done ++ block_pieces rev to authors text b;
      pieces = goes.0;
      all = goes.1;
      within = within.1;
      small = omega (arith, sum, one, all, inv.small);
    }
