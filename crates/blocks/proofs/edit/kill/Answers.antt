use Rattle.std.proofs.Common.{refl, sym, subst, Some, arith}
use Rattle.blocks.specs.declared.block.Block.{Block}
use Rattle.blocks.specs.declared.block.TheConstants.{LAST_LABEL}
use Rattle.blocks.specs.Blocks.{IsKept}
use Rattle.blocks.proofs.Entries.{listed_same, weight_fits_set, len_small}
use Rattle.blocks.proofs.Labels.{Rises-set}
use Rattle.blocks.proofs.edit.kill.Goals as goal

pub replace-requires-clause-weight_fits : goal.replace-requires-clause-weight_fits
replace-requires-clause-weight_fits c =
    let small = len_small c.args.tree.now.items c.args.rank c.get.result.now c.get.ensures.item in
    weight_fits_set c.args.index.now c.args.tree.now.items c.args.rank _ c.requires.kept.listed
    (omega (arith, small, c.requires.kept.listed.small))

pub returns-clause-kept : goal.returns-clause-kept
returns-clause-kept c =
    let b = c.get.result.now in
    let dead : Block = record b { died = Some c.args.rev } in
    subst (IsKept c.args.index.now) (sym c.replace.ensures.items)
    (record {
      listed = listed_same c.args.index.now c.args.tree.now.items c.args.rank b dead c.requires.kept.listed
          c.get.ensures.item refl refl refl;
      rises = Rises-set 0 LAST_LABEL c.args.tree.now.items c.args.rank b dead c.requires.kept.rises c.get.ensures.item
          refl;
    })
