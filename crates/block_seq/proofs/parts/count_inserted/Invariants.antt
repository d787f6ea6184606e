-- The loop of `count_inserted`: the characters that the parts passed so far insert are counted.
use Rattle.std.proofs.Common.{◌≡◌, take, sum_by}
use Rattle.block_seq.specs.KeptParts.{inserted_size}
use Rattle.block_seq.proofs.parts.count_inserted.Given as goal

-- the characters of the parts so far are counted
abbrev pub invariant-loop-part : goal.invariant-loop-part
invariant-loop-part l = l.count ≡ sum_by inserted_size (take l.part-index l.parts)
