use Rattle.std.proofs.Common.{sym, subst}
use Rattle.blocks.specs.Blocks.{IsKept}
use Rattle.blocks.proofs.Parts.{take_leaves}
use Rattle.blocks.proofs.edit.take_block.Goals as goal

pub returns-clause-kept : goal.returns-clause-kept
returns-clause-kept c =
    subst (IsKept c.remove.new.self) (sym c.remove-block.ensures.items)
    (take_leaves c.args.index.now c.remove.new.self c.args.tree.now.items c.args.rank c.remove-block.result
    c.requires.kept c.remove-block.ensures.removed c.remove.ensures.rest)
