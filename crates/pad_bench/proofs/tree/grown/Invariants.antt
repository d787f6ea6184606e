-- The loop of `grown`: the tree has as many items as turns were made, each of a weight of at most 10.
use Rattle.std.proofs.Common.{◌≡◌, ◌*◌, ◌≤◌, length, sum_by}
use Rattle.pad_bench.proofs.tree.grown.Given as goal

abbrev pub invariant-loop-number : goal.invariant-loop-number
invariant-loop-number l = (length l.tree.items ≡ l.number) × (sum_by (λ stone. stone.weight) l.tree.items ≤ 10
    * l.number)
