-- The loop of `without`: what is kept so far, and what will be kept of the rest.
use Rattle.std.proofs.Common.{◌≡◌, ◌++◌, length}
use Rattle.pad_accounts.specs.Lines.{raw_lines, without}
use Rattle.pad_accounts.proofs.lines.without.Given as goal

abbrev pub invariant-loop-rest : goal.invariant-loop-rest
invariant-loop-rest l =
    l.kept.items ++ without l.taken l.name (raw_lines l.rest) ≡ without l.taken l.name (raw_lines l.text)

abbrev pub decreases-loop-rest : goal.decreases-loop-rest
decreases-loop-rest l = length l.rest
