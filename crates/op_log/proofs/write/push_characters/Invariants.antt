-- The loop of `push_characters`: those passed so far are written, and fit.
use Rattle.std.proofs.Common.{◌≡◌, ◌++◌, take, flat_map}
use Rattle.std.specs.List.{AllByRecursion}
use Rattle.std.specs.Char.{IsScalar}
use Rattle.op_log.specs.Number.{number_bytes}
use Rattle.op_log.proofs.write.push_characters.Given as goal

abbrev pub invariant-loop-character : goal.invariant-loop-character
invariant-loop-character l = record {
  bytes : l.bytes.items ≡ l.initial.bytes.items ++ flat_map number_bytes (take l.character-index l.text);
  fits : AllByRecursion IsScalar (take l.character-index l.text);
}
