-- The loop of `descend`: the tree and those that wait keep all items, and there is room for more on the way down.
use Rattle.std.proofs.Common.{◌≡◌, ◌+◌, ◌≤◌, ◌++◌, take, length}
use Rattle.weight_tree.specs.Waiting.{from_waiting, IsWaiting}
use Rattle.weight_tree.proofs.iter.descend.Given as goal

abbrev pub invariant-loop-tree : goal.invariant-loop-tree
invariant-loop-tree g l =
    record {
      waiting : IsWaiting (length l.waiting) l.depth l.waiting;
      room : l.depth + l.tree.height ≤ length l.waiting;
      items : l.tree.items ++ from_waiting (take l.depth l.waiting) ≡ l.fn.tree.items
          ++ from_waiting (take l.fn.depth l.fn.waiting);
    }

abbrev pub decreases-loop-tree : goal.decreases-loop-tree
decreases-loop-tree g l = length l.tree.items
