-- The loop of `audit_log`: the records so far agree with the log.
use Rattle.std.proofs.Common.{◌≡◌, [], None, take}
use Rattle.pad_core.specs.Audit.{first_fault}
use Rattle.pad_core.proofs.recorded.audit_log.Given as goal

-- the records so far agree
abbrev pub invariant-loop-index : goal.invariant-loop-index
invariant-loop-index g l = first_fault l.ledger [] (take l.index l.records) ≡ None
