use Rattle.std.proofs.Common.{sym, ◌∙◌, ap}
use Rattle.std.specs.List.{find}
use Rattle.holdback.specs.Held.{is_ready}
use Rattle.pad_core.proofs.Releases.{next_none, next_of}
use Rattle.pad_core.proofs.push.next_op.Goals as goal

pub returns-in-Some : goal.returns-in-Some
returns-in-Some g c = c.get.ensures ∙ next_of c.args.ledger.now c.args.held.now c.seen.result.now c.in-Some.name
    c.seen.ensures c.in-Some.ensures.rising c.in-Some.ensures.value

pub returns-in-None : goal.returns-in-None
returns-in-None g c =
    sym (ap (λ v. find (is_ready v) c.args.held.now) (sym c.seen.ensures)
    ∙ next_none c.seen.result.now c.args.held.now c.in-None.ensures.value)
