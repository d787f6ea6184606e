use Rattle.std.proofs.Common.{◌≡◌, ◌+◌, ◌<◌, ◌≤◌, slice_set, length, Some, ◌∙◌, subst, arith, length-set}
use Rattle.std.proofs.lemmas.Grind.{common_steps}
use Rattle.weight_tree.specs.Tree.{IsWeightTree}
use Rattle.weight_tree.specs.Waiting.{WaitsAt}
use Rattle.weight_tree.proofs.AtBranch.{items_at, height_at}
use Rattle.weight_tree.proofs.Waits.{from_waiting_more, IsWaiting_more}
use Rattle.weight_tree.proofs.iter.descend.Goals as goal

pub loop-tree-preserved : goal.loop-tree-preserved
loop-tree-preserved g c =
    let b = c.in-Some.branch.value in
    let waiting = c.loop-tree.waiting in
    let depth = c.loop-tree.depth in
    let mended = subst (IsWeightTree g.T.Weigh.weight_of) c.in-Some.is c.tree.invariant in
    let height = height_at _ _ c.loop-tree.tree.now c.tree.view_is c.in-Some.is ∙ mended.height in
    let items = items_at _ _ c.loop-tree.tree.now c.tree.view_is c.in-Some.is in
    let room = c.loop-tree.invariant.room in
    let below : depth < length waiting = omega arith in
    let inside : depth + b.right.height < length waiting = omega arith in
    let left_room : depth + 1 + b.left.height ≤ length waiting = omega arith in
    let waits : WaitsAt (length waiting) depth (Some c.deref.result) = rw c.deref.ensures inside in
    let same : length (slice_set waiting depth (Some c.deref.result)) ≡ length waiting =
    length-set waiting depth (Some c.deref.result) in
    record {
      waiting = rw same (IsWaiting_more (length waiting) waiting depth (Some c.deref.result) below
          c.loop-tree.invariant.waiting waits);
      room = rw (same, c.deref-in-Some.ensures) left_room;
      items = from_waiting_more _ waiting depth c.deref.result _ below
          (rw (c.deref.ensures, c.deref-in-Some.ensures, ← items) c.loop-tree.invariant.items);
    }

pub loop-tree-smaller : goal.loop-tree-smaller
loop-tree-smaller g c = grind (arith, common_steps)
