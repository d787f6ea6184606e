-- The loop of `push_number`: the bytes so far and those of the rest are all.
use Rattle.std.proofs.Common.{◌≡◌, ◌++◌, ◌<◌, ◌≤◌, ◌^◌, length, take, vec_len}
use Rattle.op_log.specs.Number.{number_bytes}
use Rattle.op_log.proofs.number.push_number.Given as goal

abbrev pub invariant-loop-rest : goal.invariant-loop-rest
invariant-loop-rest l = record {
  bytes : l.bytes.items ++ number_bytes l.rest ≡ l.initial.bytes.items ++ number_bytes l.number;
  bound : l.rest < 2 ^ 64;
  kept : take (vec_len l.initial.bytes) l.bytes.items ≡ l.initial.bytes.items;
  long : vec_len l.initial.bytes ≤ length l.bytes.items;
}

abbrev pub decreases-loop-rest : goal.decreases-loop-rest
decreases-loop-rest l = l.rest
