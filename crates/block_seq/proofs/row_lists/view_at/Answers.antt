use Rattle.std.proofs.Common.{◌≡◌, ◌+◌, ap, sym, refl, ◌∙◌, arith, Some}
use Rattle.block_seq.proofs.RowCell.{cell_in_block, parent_in, parent_first, parent_later}
use Rattle.block_seq.proofs.RowLists.{get_here, author_here}
use Rattle.block_seq.proofs.row_lists.view_at.Goals as goal
use Rattle.block_seq.proofs.row_lists.view_at.Goals.{then-offset-eq0, else-offset-eq0}

pub returns : goal.returns
returns c =
    let b = c.args.block.now in
    let under : c.if-offset-eq0.parent ≡ parent_in b.first b.parent c.args.offset = elim c.if-offset-eq0.branch [
      | then-offset-eq0 w ↦ w.parent-is ∙ sym (parent_first b.first b.parent c.args.offset w.if-offset-eq0.true)
      | else-offset-eq0 w ↦ w.parent-is ∙ ap Some w.plus.ensures
          ∙ sym (parent_later b.first b.parent c.args.offset w.if-offset-eq0.false)
    ] in
    let is = cell_in_block c.args.authors.now c.args.text.now b c.args.offset c.plus-2.result c.if-offset-eq0.parent
    c.index-text-block.result c.index-authors-block.result
    c.requires.inside c.plus-2.ensures under
    (get_here c.args.text.now (b.start + c.args.offset) c.index-text-block.result
    (omega (arith, c.requires.within.1, c.requires.inside)) c.index-text-block.is)
    (author_here c.args.authors.now b.author c.index-authors-block.result c.requires.within.0 c.index-authors-block.is)
    in
    rw is refl
