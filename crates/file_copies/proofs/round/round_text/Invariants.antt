-- The loop of `round_text`: what is there so far, and the stretches that are left, are the whole round.
use Rattle.std.proofs.Common.{◌≡◌, ◌++◌, drop}
use Rattle.file_copies.specs.Rounds.{round_bytes}
use Rattle.file_copies.proofs.round.round_text.Given as goal

-- the bytes so far and those of the rest are all
abbrev pub invariant-loop-stretch : goal.invariant-loop-stretch
invariant-loop-stretch l = l.bytes.items ++ round_bytes (drop l.stretch-index l.round) ≡ round_bytes l.round
