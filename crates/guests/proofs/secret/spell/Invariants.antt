-- The loop of `spell`: the bytes passed so far are letters.
use Rattle.std.proofs.Common.{◌≡◌, ◌++◌, map, take, drop}
use Rattle.guests.specs.Guests.{letter}
use Rattle.guests.proofs.secret.spell.Given as goal

abbrev pub invariant-loop-byte : goal.invariant-loop-byte
invariant-loop-byte l = l.bytes ≡ map letter (take l.byte-index l.initial.bytes) ++ drop l.byte-index l.initial.bytes
