-- The loop of `names_in`: the names so far, with those of the rest; and no more lines than bytes.
use Rattle.std.proofs.Common.{◌≡◌, ◌+◌, ◌++◌, ◌≤◌, length, map}
use Rattle.pad_accounts.specs.Lines.{raw_lines}
use Rattle.pad_accounts.specs.Names.{names_from, seen}
use Rattle.pad_accounts.proofs.names.names_in.Given as goal

abbrev pub invariant-loop-rest : goal.invariant-loop-rest
invariant-loop-rest l = record {
  names : map seen l.names.items ++ names_from (l.number + 1) (raw_lines l.rest) ≡ names_from 1 (raw_lines l.list);
  fits : l.number + length l.rest ≤ length l.list;
}

abbrev pub decreases-loop-rest : goal.decreases-loop-rest
decreases-loop-rest l = length l.rest
