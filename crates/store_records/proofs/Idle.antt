-- A request that may leave no records leaves the operations unchanged, and leaves no records.
use Rattle.std.proofs.Common.{◌≡◌, ◌⊎◌, inl, inr, ℕ, Bool, true, false, not, cond, List, [], ◌++◌, Option, Some, None}
use Rattle.std.proofs.Common.{Result, Ok, Err, bytes_eq, unwrap_or, refl, sym, ap, ◌∙◌, subst, append-nil}
use Rattle.std.proofs.lemmas.Bool.{false≢true}
use Rattle.std.proofs.lemmas.List.{append_cancel_left}
use Rattle.op_log.specs.Made.{Made}
use Rattle.pad_model.specs.declared.op.Op.{Op}
use Rattle.pad_model.specs.declared.refusal.Refusal.{Refusal}
use Rattle.pad_model.specs.declared.who.Who.{Who}
use Rattle.pad_model.specs.declared.who.Who.TheVariants as who
use Rattle.pad_model.specs.declared.who.Version.{Version}
use Rattle.presence.specs.Presence.{Presence}
use Rattle.sessions.specs.declared.session.Room.{Room}
use Rattle.pad_core.specs.Machine.{Machine, author_act, author_refusal, author_step, peer_act, session_step, step}
use Rattle.pad_core.specs.declared.act.Act.{Act}
use Rattle.pad_core.specs.declared.act.Act.TheVariants as act
use Rattle.pad_core.specs.declared.owned.Owned.{Owned}
use Rattle.pad_core.specs.declared.reply.PadReply.{PadReply}
use Rattle.pad_core.specs.declared.reply.PadReply.TheVariants as pad
use Rattle.pad_core.specs.declared.request.Request.{Request}
use Rattle.pad_core.specs.declared.request.Request.TheVariants as request
use Rattle.server_core.specs.Actor.{visit_on}
use Rattle.server_core.specs.AtCell.{CellAnswer, request_at}
use Rattle.server_core.specs.Served.{Visited}
use Rattle.store_records.specs.Laws.{Left, now_at, visit_at}
use Rattle.store_records.specs.Leaves.{is_kept, may_leave}
use Rattle.store_records.specs.Records.{Answer, act_records, records_of}

-- the operations are unchanged, or the act may leave records
abbrev Stays : Act → List Op → List Op → Type 0
Stays this old after = (after ≡ old) ⊎ (is_kept this ≡ true)

either : {A : Type 0} (P : A → Type 0) (b : Bool) (x y : A) → P x → P y → P (cond b x y)
either P true x y p q = p
either P false x y p q = q

abbrev machine : Option Owned → ℕ → List Op → List Op → Presence → ℕ → Made → Machine
machine o replica log held p clock made = record {
  owned = o;
  replica = replica;
  log = log;
  held = held;
  presence = p;
  clock = clock;
  made = made;
}

author_stays : (owned : Owned) (name : List ℕ) (visit : ℕ) (this : Act) (m : Machine) →
    Stays this m.log (author_act owned name visit this m).1.log
author_stays owned name visit (act.Insert rev at text) m = inr refl
author_stays owned name visit (act.Delete rev at len) m = inr refl
author_stays owned name visit (act.Edit rev changes) m = inr refl
author_stays owned name visit (act.Comment rev at len text) m = inr refl
author_stays owned name visit (act.Resolve resolved) m = inr refl
author_stays owned name visit other m = inl refl

peer_stays : (version : Version) (this : Act) (m : Machine) → Stays this m.log (peer_act version this m).1.log
peer_stays version (act.Push op) m = inr refl
peer_stays version other m = inl refl

session_stays : (owned : Owned) (w : Who) (visit : Option ℕ) (this : Act) (m : Machine) →
    Stays this m.log (session_step owned w visit this m).1.log
session_stays owned who.Nobody visit this m = inl refl
session_stays owned (who.Peer number version) visit this m = peer_stays version this m
session_stays owned (who.Author name) visit this m = at (author_refusal owned m.presence name visit this) refl
  where
    refused : (e : Refusal) → author_refusal owned m.presence name visit this ≡ Some e →
        author_step owned name visit this m ≡ (Err e, m)
    refused e q = rw q refl

    allowed : author_refusal owned m.presence name visit this ≡ None → author_step owned name visit this m
        ≡ author_act owned name (unwrap_or visit 0) this m
    allowed q = rw q refl

    Goal : Result PadReply Refusal × Machine → Type 0
    Goal done = Stays this m.log done.1.log

    at : (r : Option Refusal) → author_refusal owned m.presence name visit this ≡ r →
        Goal (author_step owned name visit this m)
    at (Some e) q = subst Goal (sym (refused e q)) (inl refl)
    at None q = subst Goal (sym (allowed q)) (author_stays owned name (unwrap_or visit 0) this m)

step_stays : (name : List ℕ) (w : Who) (visit : Option ℕ) (this : Act) (o : Option Owned) (replica : ℕ)
    (log held : List Op) (p : Presence) (clock : ℕ) (made : Made) →
    Stays this log (step name w visit this (machine o replica log held p clock made)).1.log
step_stays name w visit this None replica log held p clock made = inl refl
step_stays name w visit this (Some owned) replica log held p clock made =
    either (λ (done : Result PadReply Refusal × Machine). Stays this log done.1.log) (not (bytes_eq owned.name name))
    (Ok pad.Elsewhere, machine (Some owned) replica log held p clock made) _ (inl refl)
    (session_stays owned w visit this (machine (Some owned) replica log held p clock made))

-- without operations, an act leaves no records, or it may leave some
without : (w : Who) (this : Act) (at visit : ℕ) (answer : Answer) → (act_records w this at visit answer [] ≡ []) ⊎ (is_kept this ≡ true)
without w act.Join at visit answer = inr refl
without w (act.Rejoin old) at visit answer = inr refl
without w (act.Grant grantee right) at visit answer = inr refl
without w (act.Hand author) at visit answer = inr refl
without w (act.SetClosed closed) at visit answer = inr refl
without w (act.Mark rev text) at visit answer = inr refl
without w (act.Introduce display) at visit answer = inr refl
without w other at visit answer = inl refl

-- an act that leaves the operations unchanged leaves no records, or it may leave some
act_idle : (w : Who) (this : Act) (at visit : ℕ) (answer : Answer) (old after more : List Op) → Stays this old after → after ≡ old ++ more →
    (act_records w this at visit answer more ≡ []) ⊎ (is_kept this ≡ true)
act_idle w this at visit answer old after more (inr kept) grown = inr kept
act_idle w this at visit answer old after more (inl same) grown = subst (λ (ops : List Op). (act_records w this at visit answer ops ≡ [])
    ⊎ (is_kept this ≡ true)) (sym none) (without w this at visit answer)
  where
    none : more ≡ []
    none = append_cancel_left old more [] (sym grown ∙ (same ∙ sym (append-nil old)))

-- a request leaves no records, or it may leave some
abbrev Idle : Who → Request → ℕ → ℕ → Answer → List Op → Type 0
Idle w this at visit answer more = (records_of w this at visit answer more ≡ []) ⊎ (may_leave this ≡ true)

idle : (w : Who) (this : Request) (rooms : List Room) (cell : ℕ) (old : Machine) (answer : Answer) (new : List Room)
    (after : Machine) (more : List Op) →
    Visited w this rooms old (request_at w this cell rooms old) answer new after → after.log ≡ old.log ++ more →
    Idle w this (now_at old) (visit_at after) answer more
idle w request.Pads rooms cell old answer new after more visited grown = inl refl
idle w (request.People authors) rooms cell old answer new after more visited grown = inl refl
idle w (request.Hello name token) rooms cell old answer new after more visited grown = inl refl
idle w (request.Peer number token version) rooms cell old answer new after more visited grown = inl refl
idle w (request.Create name) rooms cell old answer new after more visited grown = inr refl
idle w (request.On name this) rooms cell old answer new after more (inl is) grown =
    act_idle w this (now_at old) (visit_at after) answer old.log after.log more
    (subst (λ (x : CellAnswer). Stays this old.log x.2.log) is
    (step_stays name w (visit_on name rooms) this old.owned old.replica old.log old.held old.presence old.clock
    old.made)) grown
idle w (request.On name this) rooms cell old answer new after more (inr (told, stays, inl (same, why))) grown =
    act_idle w this (now_at old) (visit_at after) answer old.log after.log more (inl (ap (λ (m : Machine). m.log) same)) grown
idle w (request.On name this) rooms cell old answer new after more
    (inr (told, stays, inr (there, what, on, (peer, here, op, is, stopped, whole, unshut)))) grown =
    inr (subst (λ (r : Request). may_leave r ≡ true) (sym (on ∙ ap (λ a. request.On there a) is)) refl)

-- a request that may leave no records leaves none
pub request_idle : (w : Who) (this : Request) (cell : ℕ) (rooms : List Room) (old : Machine) (answer : Answer)
    (new : List Room) (after : Machine) (more : List Op) →
    Left w this cell rooms old answer new after more → may_leave this ≡ false → records_of w this (now_at old) (visit_at after) answer more ≡ []
request_idle w this cell rooms old answer new after more l unkept =
    at (idle w this rooms cell old answer new after more l.visited l.grown)
  where
    at : Idle w this (now_at old) (visit_at after) answer more → records_of w this (now_at old) (visit_at after) answer more ≡ []
    at (inl none) = none
    at (inr kept) = absurd (false≢true (sym unkept ∙ kept))
