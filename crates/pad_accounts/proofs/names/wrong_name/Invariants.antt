-- The loop of `wrong_name`: the names so far can be added.
use Rattle.std.proofs.Common.{◌≡◌, [], take, drop}
use Rattle.pad_accounts.specs.Lines.{raw_lines}
use Rattle.pad_accounts.specs.Names.{first_fault}
use Rattle.pad_accounts.proofs.names.wrong_name.Given as goal

abbrev pub invariant-loop-i : goal.invariant-loop-i
invariant-loop-i l =
    first_fault (raw_lines l.text) (take l.i l.names) (drop l.i l.names) ≡ first_fault (raw_lines l.text) [] l.names
