use Rattle.std.proofs.Common.{◌≡◌, ◌+◌, suc, refl, subst, arith}
use Rattle.std.proofs.lemmas.Option.{slice_get_within}
use Rattle.blocks.proofs.Entries.{count_small}
use Rattle.block_seq.specs.Rows.{IsBehind}
use Rattle.block_seq.proofs.BlockCells.{none_held, spot_block}
use Rattle.block_seq.proofs.BlockScan.{behind_block, last_in_block}
use Rattle.block_seq.proofs.run_place.rank_behind.Goals as goal

pub overflow_add-result : goal.overflow_add-result
overflow_add-result c =
    let found = spot_block c.args.tree.now.items c.args.stamp c.in-Some.spot.rank c.in-Some.spot.offset
    c.in-Some.ensures.spot in
    let within = slice_get_within c.args.tree.now.items c.in-Some.spot.rank found.0 found.1 in
    let small = count_small c.args.index.now c.args.tree.now.items c.requires.kept.listed in
    omega (arith, within, small)

pub returns-in-Some-clause-within : goal.returns-in-Some-clause-within
returns-in-Some-clause-within c =
    let found = spot_block c.args.tree.now.items c.args.stamp c.in-Some.spot.rank c.in-Some.spot.offset
    c.in-Some.ensures.spot in
    let within = slice_get_within c.args.tree.now.items c.in-Some.spot.rank found.0 found.1 in
    omega (arith, within)

pub returns-in-None-clause-behind : goal.returns-in-None-clause-behind
returns-in-None-clause-behind c = λ authors text w h.
    let none = none_held authors text c.args.index.now c.args.tree.now.items c.args.stamp c.requires.kept.listed w
    c.in-None.ensures.spot in
    absurd (cc (none, h))

pub returns-in-Some-clause-behind : goal.returns-in-Some-clause-behind
returns-in-Some-clause-behind c = λ authors text w h.
    let bs = c.args.tree.now.items in
    let found = spot_block bs c.args.stamp c.in-Some.spot.rank c.in-Some.spot.offset c.in-Some.ensures.spot in
    let k = c.requires.kept.listed in
    let last = last_in_block c.args.index.now bs c.args.stamp _ c.in-Some.spot.rank found.0 k found.1 found.2
    c.requires.cut refl refl in
    subst (IsBehind bs c.args.stamp) (let next : suc c.in-Some.spot.rank ≡ c.in-Some.spot.rank + 1 = omega arith in
    next)
    (behind_block c.args.index.now bs c.args.stamp c.in-Some.spot.rank found.0 c.in-Some.ensures.sound k found.1 last
    found.2)
