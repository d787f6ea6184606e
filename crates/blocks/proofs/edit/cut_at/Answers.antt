use Rattle.std.proofs.Common.{◌≡◌, ◌<◌, sym, ap, ◌∙◌, slice_get, arith}
use Rattle.pad_model.specs.Stamp.{Stamp}
use Rattle.ident_index.specs.Index.{Holds, stamp_behind}
use Rattle.ident_index.proofs.Order.{same_stamps}
use Rattle.blocks.specs.declared.block.Block.{Block}
use Rattle.blocks.proofs.Parts.{holds_here, some_block}
use Rattle.blocks.proofs.edit.cut_at.Goals as goal

-- the block that holds the stamp begins with it
pub returns-then-spot-eq0-clause-edge : goal.returns-then-spot-eq0-clause-edge
returns-then-spot-eq0-clause-edge c = λ first held.
    let spot = c.in-Some.ensures.spot in
    let found = some_block (slice_get c.args.tree.now.items c.in-Some.spot.rank)
    (λ (x : Block). (c.args.stamp ≡ stamp_behind x.first c.in-Some.spot.offset) × (c.in-Some.spot.offset < x.len))
    spot in
    let b = found.0 in
    let s = found.2.0 in
    let inside = found.2.1 in
    let counter = ap (λ (x : Stamp). x.counter) s in
    let replica = ap (λ (x : Stamp). x.replica) s in
    let here : Holds c.args.index.now b.first c.args.stamp =
    holds_here c.args.index.now c.args.tree.now.items c.in-Some.spot.rank b c.args.stamp c.requires.kept.listed found.1
    (sym replica, omega (arith, counter), omega (arith, counter, inside)) in
    c.in-Some.ensures.sound.apart c.args.stamp first b.first held here
    ∙ same_stamps b.first c.args.stamp (omega (arith, counter, c.if-spot-eq0.true)) (sym replica)
