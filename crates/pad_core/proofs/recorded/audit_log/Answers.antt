use Rattle.pad_core.proofs.Audited.{fault_found, one_agrees, unread}
use Rattle.pad_core.proofs.recorded.audit_log.Goals as goal

pub returns-in-Ok-false-clause-fault : goal.returns-in-Ok-false-clause-fault
returns-in-Ok-false-clause-fault g c =
    fault_found c.args.ledger.now c.args.records.now c.loop-index.index c.index-records-index.result
    c.in-Ok-false.field-0 c.loop-index.invariant c.loop-index-test.true c.index-records-index.is
    c.in-Ok-false.ensures.value c.in-Ok-false.field-0-test

pub returns-in-Err-clause-fault : goal.returns-in-Err-clause-fault
returns-in-Err-clause-fault g c = (
  c.loop-index.index,
  unread c.args.ledger.now c.args.records.now c.loop-index.index c.index-records-index.result
      c.loop-index-test.true c.index-records-index.is c.in-Err.ensures.memory,
  c.loop-index.invariant,
)

pub loop-index-preserved : goal.loop-index-preserved
loop-index-preserved g c =
    one_agrees c.args.ledger.now c.args.records.now c.loop-index.index c.index-records-index.result c.in-Ok-true.field-0
    c.loop-index.invariant c.loop-index-test.true c.index-records-index.is
    c.in-Ok-true.ensures.value c.in-Ok-true.field-0-test
