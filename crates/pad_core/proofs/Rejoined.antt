-- Who cannot join instead of an old visit.
use Rattle.std.proofs.Common.{◌≡◌, inl, inr, ℕ, List, Option, Some, None, Result, Err, refl, sym, ap, ap₂, unwrap_or}
use Rattle.op_log.specs.Made.{Made}
use Rattle.pad_model.specs.Answers.{Answers}
use Rattle.pad_model.specs.declared.op.Op.{Op}
use Rattle.pad_model.specs.declared.refusal.Refusal.{Refusal}
use Rattle.pad_model.specs.declared.refusal.Refusal.TheVariants.{Memory}
use Rattle.presence.specs.Presence.{Presence, rejoin_refusal}
use Rattle.pad_core.specs.Presence.{rejoin}
use Rattle.pad_core.specs.declared.reply.PadReply.{PadReply}

-- what is refused changes nothing, and its refusal is the first that applies, or memory
pub rejoin_refused : (old : ℕ) (author : List ℕ) (log : List Op) (made : Made) (p new : Presence) (e : Refusal)
    (r : Option Refusal) → rejoin_refusal old author p ≡ r → e ≡ unwrap_or r Memory → new ≡ p →
    Answers p (rejoin old author log made p) (Err e) new
rejoin_refused old author log made p new e (Some refusal) is told same =
    rw is (inr (ap₂ (λ (x : Refusal) (q : Presence). (let answer : Result PadReply Refusal = Err x in (answer, q)))
    (sym told) (sym same)))
rejoin_refused old author log made p new e None is told same =
    rw is (inl (ap (λ (x : Refusal). (let answer : Result PadReply Refusal = Err x in answer)) told, same, refl))
