-- The loop of `push_run`: the cells that stand there and those left to add make the whole run.
use Rattle.std.proofs.Common.{◌≡◌, ◌+◌, ◌++◌, drop, vec_len, vec_capacity}
use Rattle.block_seq.specs.Plain.{kept_run}
use Rattle.block_seq.proofs.put.push_run.Given as goal

-- what stands there, and what is left to add, is the whole run behind the cells of before
abbrev pub invariant-loop-place : goal.invariant-loop-place
invariant-loop-place l =
    (l.cells.items ++ kept_run (record l.run.first { counter = l.run.first.counter + l.place }) l.parent
    (drop l.place l.run.text) l.author l.rev
    ≡ l.initial.cells.items ++ kept_run l.run.first l.run.after l.run.text l.author l.rev)
    × (vec_capacity l.cells ≡ vec_capacity l.initial.cells)
    × (vec_len l.cells ≡ vec_len l.initial.cells + l.place)
