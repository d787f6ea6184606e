-- A refusal of the book of visits is that of the pad.
use Rattle.std.proofs.Common.{◌≡◌, refl, subst, unwrap_or}
use Rattle.pad_model.specs.declared.refusal.Refusal.TheVariants.{Memory}
use Rattle.presence.specs.Presence.{rejoin_refusal}
use Rattle.pad_core.proofs.Exits.{answers_passed}
use Rattle.pad_core.proofs.Rejoined.{rejoin_refused}
use Rattle.pad_core.proofs.visits.rejoin.Goals as goal

pub returns-in_err-visit : goal.returns-in_err-visit
returns-in_err-visit g c =
    answers_passed c.from_residual.result c.from_residual.ensures.1
    (rejoin_refused c.args.old c.args.author.now c.args.ledger.now c.args.made.now.made c.args.presence.now
    c.rejoin.new.self c.in_err-visit.field-0.0 (rejoin_refusal c.args.old c.args.author.now c.args.presence.now) refl
    (subst (λ name. c.in_err-visit.field-0.0 ≡ unwrap_or (rejoin_refusal c.args.old name c.args.presence.now) Memory)
    c.as_str.ensures c.in_err-visit.ensures.refused.0)
    c.in_err-visit.ensures.refused.1)
