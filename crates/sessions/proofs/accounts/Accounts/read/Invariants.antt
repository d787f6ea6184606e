-- The loop of `read`: the accounts so far with the lines that are left make all accounts, and the loop ends.
use Rattle.std.proofs.Common.{◌≡◌, ◌+◌, ◌≤◌, length}
use Rattle.std.specs.Str.Lines.{lines}
use Rattle.sessions.specs.Accounts.{with_lines, accounts_of}
use Rattle.sessions.proofs.accounts.Accounts.read.Given as goal

abbrev pub invariant-loop-rest : goal.invariant-loop-rest
invariant-loop-rest l = record {
  lines : with_lines l.accounts (l.line + 1) (lines l.rest) ≡ accounts_of l.bytes;
  fits : l.line + length l.rest ≤ length l.bytes;
}

abbrev pub decreases-loop-rest : goal.decreases-loop-rest
decreases-loop-rest l = length l.rest
