use Rattle.std.proofs.Common.{refl, Some, None}
use Rattle.pad_core.proofs.Receives.{known_covered, known_held}
use Rattle.pad_core.proofs.push.is_known.Goals as goal

pub returns-then-covers : goal.returns-then-covers
returns-then-covers g c = known_covered c.covers.result c.seen.result.now c.args.ledger.now c.args.held.now c.args.name
    c.seen.ensures c.covers.ensures c.if-covers.true

pub returns-in-Some : goal.returns-in-Some
returns-in-Some g c = known_held c.covers.result _ c.seen.result.now c.args.ledger.now c.args.held.now c.args.name
    (Some c.in-Some.field-0.now) c.seen.ensures c.covers.ensures c.if-covers.false c.in-Some.ensures refl

pub returns-in-None : goal.returns-in-None
returns-in-None g c = known_held c.covers.result _ c.seen.result.now c.args.ledger.now c.args.held.now c.args.name None
    c.seen.ensures c.covers.ensures c.if-covers.false c.in-None.ensures refl
