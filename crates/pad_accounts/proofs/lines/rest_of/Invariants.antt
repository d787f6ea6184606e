-- The loop of `rest_of`: no line so far begins so.
use Rattle.std.proofs.Common.{◌≡◌, length}
use Rattle.pad_accounts.specs.Lines.{raw_lines, rest_in}
use Rattle.pad_accounts.proofs.lines.rest_of.Given as goal

abbrev pub invariant-loop-rest : goal.invariant-loop-rest
invariant-loop-rest l = rest_in l.kind l.name (raw_lines l.rest) ≡ rest_in l.kind l.name (raw_lines l.text)

abbrev pub decreases-loop-rest : goal.decreases-loop-rest
decreases-loop-rest l = length l.rest
