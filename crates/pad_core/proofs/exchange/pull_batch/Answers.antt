use Rattle.std.proofs.Common.{inr, sym, ◌∙◌, le-ltb}
use Rattle.std.proofs.lemmas.Bool.{ne_eqb}
use Rattle.pad_core.specs.declared.exchange.TheConstants.{MAX_BATCH}
use Rattle.pad_core.proofs.Batched.{batch_told}
use Rattle.pad_core.proofs.exchange.pull_batch.Goals as goal

pub returns : goal.returns
returns g c =
    inr (batch_told c.args.version c.args.seen.now c.args.count c.len.result c.args.ledger.now c.in_ok-ops.ops
    (ne_eqb c.args.count 0 c.if-count-eq0.false) (le-ltb MAX_BATCH c.args.count c.if-count-gt-MAX_BATCH.false)
    (sym c.can_give.ensures ∙ c.if-not-can_give.false) c.len.ensures.value
    c.in_ok-ops.ensures)
