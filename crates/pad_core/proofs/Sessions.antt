-- From what a session does on a pad of its name to what the event does.
use Rattle.std.proofs.Common.{◌≡◌, ◌⊎◌, inl, inr, ℕ, Bool, true, false, List, Option, Some, Result, Err, IsOk, refl, sym, ap, ◌∙◌}
use Rattle.std.proofs.Common.{subst, bytes_eq}
use Rattle.pad_model.specs.Answers.{Answers}
use Rattle.op_log.specs.Made.{Made}
use Rattle.pad_model.specs.declared.op.Op.{Op}
use Rattle.pad_model.specs.declared.refusal.Refusal.{Refusal}
use Rattle.pad_model.specs.declared.refusal.Refusal.TheVariants.{Memory}
use Rattle.pad_model.specs.declared.who.Version.{Version}
use Rattle.pad_model.specs.declared.who.Who.{Who}
use Rattle.pad_model.specs.declared.who.Who.TheVariants.{Author, Peer}
use Rattle.presence.specs.Presence.{Presence}
use Rattle.pad_core.specs.Machine.{Machine, author_step, name_of, peer_act, session_step, step}
use Rattle.pad_core.specs.Ran.{IsCutShort, Stepped, event_step, takes_memory}
use Rattle.pad_core.specs.declared.act.Act.{Act}
use Rattle.pad_core.specs.declared.act.Act.TheVariants as act
use Rattle.pad_core.specs.declared.event.PadEvent.{PadEvent}
use Rattle.pad_core.specs.declared.owned.Owned.{Owned}
use Rattle.pad_core.specs.declared.reply.PadReply.{PadReply}

-- a step on a pad of its name is the session's
step_here : (owned : Owned) (who : Who) (visit : Option ℕ) (this : Act) (pad : List ℕ) (o : Option Owned) (replica : ℕ)
    (log held : List Op) (p : Presence) (clock : ℕ) (made : Made) → o ≡ Some owned →
    bytes_eq owned.name pad ≡ true →
    (let m : Machine = record {
      owned = o;
      replica = replica;
      log = log;
      held = held;
      presence = p;
      clock = clock;
      made = made;
    } in
    step pad who visit this m ≡ session_step owned who visit this m)
step_here owned who visit this pad o replica log held p clock made is named = rw (is, named) refl

-- so is what it leaves
stepped_here : (owned : Owned) (event : PadEvent) (who : Who) (m new : Machine) (result : Result PadReply Refusal) →
    m.owned ≡ Some owned → owned.name ≡ event.pad.now → bytes_eq owned.name event.pad.now ≡ true → event.who.now ≡ who →
    (IsOk (session_step owned who event.visit event.act.now m).0 → result ≡ Err Memory →
    takes_memory event.act.now ≡ true) →
    Answers m (session_step owned who event.visit event.act.now m) result new →
    ((result ≡ Err Memory) × (new ≡ m) × IsOk (event_step event m).0 × (name_of m.owned ≡ Some event.pad.now)
    × (takes_memory event.act.now ≡ true))
    ⊎ (event_step event m ≡ (result, new))
stepped_here owned event who m new result is same named by takes (inl h) =
    let here = ap (λ (w : Who). step event.pad.now w event.visit event.act.now m) by
    ∙ step_here owned who event.visit event.act.now event.pad.now m.owned m.replica m.log m.held m.presence
    m.clock m.made is named in
    inl (
      h.0,
      h.1,
      subst (λ (x : Result PadReply Refusal × Machine). IsOk x.0) (sym here) h.2,
      ap name_of is
          ∙ ap Some same,
      takes h.2 h.0,
    )
stepped_here owned event who m new result is same named by takes (inr h) =
    let here = ap (λ (w : Who). step event.pad.now w event.visit event.act.now m) by
    ∙ step_here owned who event.visit event.act.now event.pad.now m.owned m.replica m.log m.held m.presence
    m.clock m.made is named in
    inr (here ∙ h)

-- what is answered exactly is out of memory at no answer
never : (done : Result PadReply Refusal × Machine) (result : Result PadReply Refusal) (new : Machine) →
    done ≡ (result, new) → IsOk done.0 → result ≡ Err Memory → ⊥
never done result new exact ok memory = refused (subst (λ (r : Result PadReply Refusal). IsOk r)
    (ap (λ (d : Result PadReply Refusal × Machine). d.0) exact ∙ memory) ok)
  where
    refused : (let r : Result PadReply Refusal = Err Memory in IsOk r) → ⊥
    refused e = cc

takes_some : (b : Bool) → (b ≡ false → ⊥) → b ≡ true
takes_some true h = refl
takes_some false h = absurd (h refl)

-- a peer's act that is answered may take memory
peer_takes : (version : Version) (this : Act) (m : Machine) → IsOk (peer_act version this m).0 → takes_memory this
    ≡ true
peer_takes version act.Leave m ok = absurd (cc)
peer_takes version (act.Caret rev at) m ok = absurd (cc)
peer_takes version act.Revs m ok = absurd (cc)
peer_takes version (act.SetClosed closed) m ok = absurd (cc)
peer_takes version other m ok = refl

-- an author's step
pub author_stepped : (owned : Owned) (name : List ℕ) (event : PadEvent) (m new : Machine)
    (result : Result PadReply Refusal) → m.owned ≡ Some owned → owned.name ≡ event.pad.now →
    bytes_eq owned.name event.pad.now ≡ true → event.who.now ≡ Author name →
    Answers m (author_step owned name event.visit event.act.now m) result new →
    (takes_memory event.act.now ≡ false → author_step owned name event.visit event.act.now m ≡ (result, new)) →
    Stepped m event result new
author_stepped owned name event m new result is same named by done exact =
    inl (stepped_here owned event (Author name) m new result is same named by
    (λ ok memory. takes_some (takes_memory event.act.now)
    (λ none. never (author_step owned name event.visit event.act.now m) result new (exact none) ok memory)) done)

-- a peer's, which may stop in a release
pub peer_stepped : (owned : Owned) (number : ℕ) (version : Version) (event : PadEvent) (m new : Machine)
    (result : Result PadReply Refusal) → m.owned ≡ Some owned → owned.name ≡ event.pad.now →
    bytes_eq owned.name event.pad.now ≡ true → event.who.now ≡ Peer number version →
    Answers m (peer_act version event.act.now m) result new
    ⊎ ((result ≡ Err Memory) × IsCutShort owned.name (Peer number version) event.act.now m new) →
    Stepped m event result new
peer_stepped owned number version event m new result is same named by (inl h) =
    inl (stepped_here owned event (Peer number version) m new result is same named by
    (λ ok memory. peer_takes version event.act.now m ok) h)
peer_stepped owned number version event m new result is same named by (inr h) =
    inr (
      h.0,
      subst (λ (w : Who). IsCutShort event.pad.now w event.act.now m new) (sym by)
          (subst (λ (n : List ℕ). IsCutShort n (Peer number version) event.act.now m new) same h.1),
    )
