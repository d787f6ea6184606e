-- The loop of `runs_of`: the runs so far and those of the authors that are left are all, and the loop ends.
use Rattle.std.proofs.Common.{◌≡◌, ◌-◌, ◌≤◌, ◌++◌, drop, map, length}
use Rattle.pad_model.specs.Visible.{runs}
use Rattle.block_seq.proofs.stretches.runs_of.Given as goal

-- the runs so far and those of the authors that are left are all
abbrev pub invariant-loop-place : goal.invariant-loop-place
invariant-loop-place l =
    (l.place ≤ length l.authors)
    × (l.runs.items ++ runs (map (λ author. author.now) (drop l.place l.authors))
    ≡ runs (map (λ author. author.now) l.authors))

abbrev pub decreases-loop-place : goal.decreases-loop-place
decreases-loop-place l = length l.authors - l.place
