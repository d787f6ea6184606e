use Rattle.std.proofs.Common.{sym, ◌∙◌, arith, subst, length}
use Rattle.std.specs.List.{AllByRecursion}
use Rattle.blocks.specs.Blocks.{IsSized}
use Rattle.blocks.specs.Cells.{IsWithin}
use Rattle.block_seq.proofs.RowCell.{cell_behind}
use Rattle.block_seq.proofs.row_lists.find_cell.Goals as goal

pub loop-block-preserved : goal.loop-block-preserved
loop-block-preserved c =
    let inv = c.loop-block.invariant in
    let b = c.in-Some.block.now in
    let steps = c.in-Some.ensures.steps in
    let within = subst (AllByRecursion (IsWithin (length c.args.authors.now) (length c.args.text.now))) steps
    inv.within in
    let sized = subst (AllByRecursion IsSized) steps inv.sized in
    record {
      place = sym (cell_behind c.args.authors.now c.args.text.now b c.next.new.self c.loop-block.block-iterator
          c.loop-block.left steps within.0.1 (omega (arith, c.if-left-block.false))) ∙ inv.place;
      sized = sized.1;
      within = within.1;
    }
