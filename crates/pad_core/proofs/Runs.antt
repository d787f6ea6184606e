-- Runs of the pad machine.
use Rattle.std.proofs.Common.{◌≡◌, inl, inr, List, [], ◌∷◌, ◌++◌, Result, Err, refl, sym, ap, ◌∙◌, subst}
use Rattle.pad_model.specs.declared.refusal.Refusal.{Refusal}
use Rattle.pad_model.specs.declared.refusal.Refusal.TheVariants.{Memory}
use Rattle.pad_core.specs.Machine.{Machine}
use Rattle.pad_core.specs.Ran.{event_step, run, Ran, Stepped, FoundMemory}
use Rattle.pad_core.specs.declared.event.PadEvent.{PadEvent}
use Rattle.pad_core.specs.declared.reply.PadReply.{PadReply}

-- a run goes on by one event
pub Ran-push : (m now next : Machine) (events : List PadEvent) (replies : List (Result PadReply Refusal))
    (event : PadEvent) (reply : Result PadReply Refusal) →
    Ran m events replies now → Stepped now event reply next → Ran m (events ++ event ∷ []) (replies ++ reply ∷ []) next
Ran-push m now next [] [] event reply r a = (next, subst (λ k. Stepped k event reply next) r a, refl)
Ran-push m now next [] (x ∷ replies) event reply r a = absurd r
Ran-push m now next (e ∷ events) [] event reply r a = absurd r
Ran-push m now next (e ∷ events) (x ∷ replies) event reply r a =
    (r.0, r.1, Ran-push r.0 now next events replies event reply r.2 a)

stepped : (m next : Machine) (event : PadEvent) (reply : Result PadReply Refusal) → Stepped m event reply next →
    (reply ≡ Err Memory → ⊥) → event_step event m ≡ (reply, next)
stepped m next event reply (inl (inl h)) no_memory = absurd (no_memory h.0)
stepped m next event reply (inl (inr h)) no_memory = h
stepped m next event reply (inr h) no_memory = absurd (no_memory h.0)

-- a run that was never out of memory is the machine's
pub Ran-machine : (m new : Machine) (events : List PadEvent) (replies : List (Result PadReply Refusal)) →
    Ran m events replies new → FoundMemory replies → run events m ≡ (replies, new)
Ran-machine m new [] [] r f = ap (λ k. ([], k)) (sym r)
Ran-machine m new [] (x ∷ replies) r f = absurd r
Ran-machine m new (e ∷ events) [] r f = absurd r
Ran-machine m new (e ∷ events) (x ∷ replies) r f =
    let one : event_step e m ≡ (x, r.0) = stepped m r.0 e x r.1 f.0 in
    let rest = Ran-machine r.0 new events replies r.2 f.1 in
    ap (λ s. (s.0 ∷ (run events s.1).0, (run events s.1).1)) one ∙ ap (λ s. (x ∷ s.0, s.1)) rest
