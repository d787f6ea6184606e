-- The loop of `count_text`: the characters of the runs passed so far are counted.
use Rattle.std.proofs.Common.{◌≡◌, length, take, sum_by}
use Rattle.block_seq.proofs.row_parts.count_text.Given as goal

-- the characters of the runs so far are counted
abbrev pub invariant-loop-run : goal.invariant-loop-run
invariant-loop-run l = l.count ≡ sum_by (λ run. length run.now.text) (take l.run-index l.runs)
