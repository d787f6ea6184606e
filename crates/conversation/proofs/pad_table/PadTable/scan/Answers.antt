use Rattle.std.proofs.Common.{◌≤◌, Ok, Err, ap, ◌∙◌, arith}
use Rattle.pad_core.proofs.Exits.{passed_on}
use Rattle.conversation.proofs.RowScans.{found, passes_on}
use Rattle.conversation.proofs.pad_table.PadTable.scan.Goals as goal

pub returns-in-Some-clause-scans : goal.returns-in-Some-clause-scans
returns-in-Some-clause-scans g c =
    let was = c.loop-place.invariant in
    found _ c.args.start c.loop-place.place _ _ _ _ _ _ c.visit.result (Ok c.in-Some.reply) was.0 (was.1, was.2)
    c.visit.ensures.visits (c.in_ok-reply.was ∙ ap (λ o. Ok o) c.in-Some.is)

pub returns-in_err-reply-clause-scans : goal.returns-in_err-reply-clause-scans
returns-in_err-reply-clause-scans g c =
    let was = c.loop-place.invariant in
    rw (passed_on c.from_residual.result c.from_residual.ensures.1)
    (found _ c.args.start c.loop-place.place _ _ _ _ _ _ c.visit.result (Err c.in_err-reply.field-0.0) was.0
    (was.1, was.2) c.visit.ensures.visits c.in_err-reply.was)

pub loop-place-preserved : goal.loop-place-preserved
loop-place-preserved g c =
    let was = c.loop-place.invariant in
    let low : c.args.start ≤ c.loop-place.place = was.0 in
    let on = passes_on _ c.args.start c.loop-place.place _ _ _ _ _ _ _ c.visit.result low (was.1, was.2)
    c.visit.ensures.who c.visit.ensures.visits (c.in_ok-reply.was ∙ ap (λ o. Ok o) c.in_default.is) in
    (omega arith, on.0, on.1)
