use Rattle.pad_core.proofs.Exits.{passed_on}
use Rattle.store_records.proofs.Replays.{ends}
use Rattle.store_records.proofs.again.rebuild.Goals as goal

pub returns-in_err-replay : goal.returns-in_err-replay
returns-in_err-replay g c =
    rw (passed_on c.from_residual-in_err-replay.result c.from_residual-in_err-replay.ensures.1)
    (ends c.loop-kept.pad c.replay.new.pad c.in-Some.kept c.loop-kept.kept-iterator.rest.items _ c.replay.result _
    c.in_err-replay.field-0.0 c.in-Some.ensures.steps.0 c.replay.ensures c.in_err-replay.was c.loop-kept.invariant)
