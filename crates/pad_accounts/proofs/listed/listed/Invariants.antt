-- The loop of `listed`: what is shown so far, with the rest.
use Rattle.std.proofs.Common.{◌≡◌, [], length}
use Rattle.pad_accounts.specs.Lines.{raw_lines}
use Rattle.pad_accounts.specs.Listed.{with_shown}
use Rattle.pad_accounts.proofs.listed.listed.Given as goal

abbrev pub invariant-loop-rest : goal.invariant-loop-rest
invariant-loop-rest l = with_shown l.shown.items (raw_lines l.rest) ≡ with_shown [] (raw_lines l.text)

abbrev pub decreases-loop-rest : goal.decreases-loop-rest
decreases-loop-rest l = length l.rest
