-- What a step of a server's machine leaves, and its reply to a push.
use Rattle.std.proofs.Common.{◌≡◌, ◌≢◌, ℕ, ◌≤◌, ◌⊎◌, inl, inr, true, List, length, Option, Some, None, Result, Ok, Err}
use Rattle.std.proofs.Common.{refl, sym, ap, bytes_eq, unwrap_or}
use Rattle.op_log.specs.Made.{Made}
use Rattle.pad_model.specs.Checked.{is_name}
use Rattle.pad_model.specs.declared.op.Op.{Op}
use Rattle.pad_model.specs.declared.who.Who.{Who}
use Rattle.pad_model.specs.declared.who.Who.TheVariants.{Nobody, Author, Peer}
use Rattle.pad_model.specs.declared.who.Version.{Version}
use Rattle.pad_model.specs.declared.refusal.Refusal.{Refusal}
use Rattle.pad_model.specs.declared.refusal.Refusal.TheVariants.{BadOp, PeerFault, NoPad, NotPeer, PadClosed}
use Rattle.pad_model.proofs.Newer.{split}
use Rattle.presence.specs.Presence.{Presence}
use Rattle.sessions.specs.Session.{IsNamed}
use Rattle.pad_core.specs.Delivered.{IsDelivered}
use Rattle.pad_core.specs.Exchange.{both_of, received, settled, steps, unsettled}
use Rattle.pad_core.specs.Closing.{is_closed}
use Rattle.pad_core.specs.Machine.{Machine, author_act, author_refusal, author_step, on_delivery, peer_act}
use Rattle.pad_core.specs.Machine.{session_step, step}
use Rattle.pad_core.specs.Ran.{IsCutShort, Stepped, event_step}
use Rattle.pad_core.specs.declared.act.Act.{Act}
use Rattle.pad_core.specs.declared.act.Act.TheVariants as act
use Rattle.pad_core.specs.declared.event.PadEvent.{PadEvent}
use Rattle.pad_core.specs.declared.owned.Owned.{Owned}
use Rattle.pad_core.specs.declared.reply.PadReply.{PadReply}
use Rattle.pad_core.specs.declared.reply.PadReply.TheVariants as reply
use Rattle.pad_core.specs.declared.reply.Pushed.{Pushed}
use Rattle.federation_laws.proofs.Acts.{Makes, inserts, deletes, changes_all, comments, resolutions}
use Rattle.federation_laws.proofs.Keeps.{IsMade, Keeps, IsTakenIn, keeps_steps}

-- the parts of a machine that federation concerns
abbrev pub pad_with : Option Owned → ℕ → List Op → List Op → Presence → ℕ → Made → Machine
pad_with owned own log held p clock known = record {
  owned = owned;
  replica = own;
  log = log;
  held = held;
  presence = p;
  clock = clock;
  made = known;
}

-- the act brings no operation
abbrev pub NoPush : Act → Type 0
NoPush (act.Push op) = ⊥
NoPush other = Unit {0}

pub push_or_not : (this : Act) → ((op : Op) × (this ≡ act.Push op)) ⊎ NoPush this
push_or_not (act.Push op) = inl (op, refl)
push_or_not other = inr tt

-- a machine whose act brought nothing: it holds what it held, and may have made an operation
pub record ActsLocally (own : ℕ) (log held : List Op) (new : Machine) : Type 0 where
  pub replica : new.replica ≡ own
  pub waits : new.held ≡ held
  pub makes : Makes own log new.log

stays : (owned : Option Owned) (own : ℕ) (log held : List Op) (p : Presence) (clock : ℕ) (known : Made) →
    ActsLocally own log held (pad_with owned own log held p clock known)
stays owned own log held p clock known = record { replica = refl; waits = refl; makes = inl refl }

on_log : (owned : Option Owned) (own : ℕ) (log held new : List Op) (p : Presence) (clock : ℕ) (known : Made) → Makes own log new →
    ActsLocally own log held (pad_with owned own new held p clock known)
on_log owned own log held new p clock known h = record { replica = refl; waits = refl; makes = h }

author_acts : (owned : Option Owned) (own : ℕ) (log held : List Op) (p : Presence) (clock : ℕ) (known : Made) (who : Owned) (name : List ℕ)
    (visit : ℕ) (this : Act) → IsDelivered log → is_name name ≡ true → 1 ≤ own →
    ActsLocally own log held (author_act who name visit this (pad_with owned own log held p clock known)).1
author_acts owned own log held p clock known who name visit (act.Insert rev at text) d named low =
    on_log owned own log held _ p clock _ (inserts own name rev at text log d named low)
author_acts owned own log held p clock known who name visit (act.Delete rev at len) d named low =
    on_log owned own log held _ p clock _ (deletes own name rev at len log d named low)
author_acts owned own log held p clock known who name visit (act.Edit rev changes) d named low =
    on_log owned own log held _ p clock _ (changes_all own name rev changes log d named low)
author_acts owned own log held p clock known who name visit (act.Comment rev at len text) d named low =
    on_log owned own log held _ p clock _ (comments own name rev at len text log d named low)
author_acts owned own log held p clock known who name visit (act.Resolve resolved) d named low =
    on_log owned own log held _ p clock _ (resolutions own name resolved log d named low)
author_acts owned own log held p clock known who name visit other d named low =
    record { replica = refl; waits = refl; makes = inl refl }

author_steps : (owned : Option Owned) (own : ℕ) (log held : List Op) (p : Presence) (clock : ℕ) (known : Made) (who : Owned) (name : List ℕ)
    (visit : Option ℕ) (this : Act) → IsDelivered log → is_name name ≡ true → 1 ≤ own →
    ActsLocally own log held (author_step who name visit this (pad_with owned own log held p clock known)).1
author_steps owned own log held p clock known who name visit this d named low =
    at (author_refusal who p name visit this) refl
  where
    at : (r : Option Refusal) → author_refusal who p name visit this ≡ r →
        ActsLocally own log held (author_step who name visit this (pad_with owned own log held p clock known)).1
    at (Some refusal) e = rw e (stays owned own log held p clock known)
    at None e = rw e (author_acts owned own log held p clock known who name (unwrap_or visit 0) this d named low)

peer_acts : (owned : Option Owned) (own : ℕ) (log held : List Op) (p : Presence) (clock : ℕ) (known : Made) (version : Version) (this : Act) →
    NoPush this → ActsLocally own log held (peer_act version this (pad_with owned own log held p clock known)).1
peer_acts owned own log held p clock known version (act.Push op) none = absurd none
peer_acts owned own log held p clock known version other none = record { replica = refl; waits = refl; makes = inl refl }

session_steps : (owned : Option Owned) (own : ℕ) (log held : List Op) (p : Presence) (clock : ℕ) (known : Made) (pad : Owned) (who : Who)
    (visit : Option ℕ) (this : Act) → IsDelivered log → IsNamed who → 1 ≤ own → NoPush this →
    ActsLocally own log held (session_step pad who visit this (pad_with owned own log held p clock known)).1
session_steps owned own log held p clock known pad Nobody visit this d named low none = stays owned own log held p clock known
session_steps owned own log held p clock known pad (Author name) visit this d named low none =
    author_steps owned own log held p clock known pad name visit this d named low
session_steps owned own log held p clock known pad (Peer number version) visit this d named low none =
    peer_acts owned own log held p clock known version this none

-- a step whose act brings nothing
pub local_step : (owned : Option Owned) (own : ℕ) (log held : List Op) (p : Presence) (clock : ℕ) (known : Made) (pad : List ℕ) (who : Who)
    (visit : Option ℕ) (this : Act) → IsDelivered log → IsNamed who → 1 ≤ own → NoPush this →
    ActsLocally own log held (step pad who visit this (pad_with owned own log held p clock known)).1
local_step None own log held p clock known pad who visit this d named low none = stays None own log held p clock known
local_step (Some owned) own log held p clock known pad who visit this d named low none =
    split (bytes_eq owned.name pad)
    (λ e. rw e (session_steps (Some owned) own log held p clock known owned who visit this d named low none))
    (λ e. rw e (stays (Some owned) own log held p clock known))

-- the reply of a step to a push of an operation that was made, and what it leaves
pub record IsPushStep (made : List Op) (own : ℕ) (result : Result PadReply Refusal × Machine) : Type 0 where
  pub in_limits : result.0 ≢ Err BadOp
  pub in_order : result.0 ≢ Err PeerFault
  pub replica : result.1.replica ≡ own
  pub kept : Keeps made own result.1.log result.1.held

same_err : (a b : Refusal) → (let r : Result PadReply Refusal = Err a in r) ≡ Err b → a ≡ b
same_err a b e = cc

answered : (answer : PadReply) (r : Refusal) → (let told : Result PadReply Refusal = Ok answer in told) ≡ Err r → ⊥
answered answer r e = cc

not_bad : NoPad ≢ BadOp
not_bad e = absurd (cc)

not_fault : NoPad ≢ PeerFault
not_fault e = absurd (cc)

peer_not_bad : NotPeer ≢ BadOp
peer_not_bad e = absurd (cc)

peer_not_fault : NotPeer ≢ PeerFault
peer_not_fault e = absurd (cc)

closed_not_bad : PadClosed ≢ BadOp
closed_not_bad e = absurd (cc)

closed_not_fault : PadClosed ≢ PeerFault
closed_not_fault e = absurd (cc)

-- a push that is refused for what the session or the pad is
unheard : (made : List Op) (owned : Option Owned) (own : ℕ) (log held : List Op) (p : Presence) (clock : ℕ) (known : Made)
    (refusal : Refusal) → refusal ≢ BadOp → refusal ≢ PeerFault →
    Keeps made own log held → IsPushStep made own (Err refusal, pad_with owned own log held p clock known)
unheard made owned own log held p clock known refusal not_bad not_fault k = record {
  in_limits = λ e. absurd (not_bad (same_err refusal BadOp e));
  in_order = λ e. absurd (not_fault (same_err refusal PeerFault e));
  replica = refl;
  kept = k;
}

settles : (made : List Op) (owned : Option Owned) (own : ℕ) (log held : List Op) (p : Presence) (clock : ℕ) (known : Made)
    (answer : Result Pushed Refusal) (more rest : List Op) → IsMade made → IsTakenIn made own (answer, (more, rest)) →
    IsPushStep made own (on_delivery (pad_with owned own log held p clock known) (settled (answer, (more, rest))))
settles made owned own log held p clock known (Err refusal) more rest m t = record {
  in_limits = λ e. t.in_limits (ap Err (same_err refusal BadOp e));
  in_order = λ e. t.in_order (ap Err (same_err refusal PeerFault e));
  replica = refl;
  kept = t.kept;
}
settles made owned own log held p clock known (Ok state) more rest m t = record {
  in_limits = λ e. absurd (answered _ BadOp e);
  in_order = λ e. absurd (answered _ PeerFault e);
  replica = refl;
  kept = keeps_steps made own (length rest) (unsettled (more, rest)) m t.kept;
}

push_session : (made : List Op) (owned : Option Owned) (own : ℕ) (log held : List Op) (p : Presence) (clock : ℕ) (known : Made) (pad : Owned)
    (who : Who) (visit : Option ℕ) (op : Op) → IsMade made → Keeps made own log held →
    IsTakenIn made own (received own op (log, held)) →
    IsPushStep made own (session_step pad who visit (act.Push op) (pad_with owned own log held p clock known))
push_session made owned own log held p clock known pad Nobody visit op m k t =
    unheard made owned own log held p clock known NotPeer peer_not_bad peer_not_fault k
push_session made owned own log held p clock known pad (Author name) visit op m k t =
    unheard made owned own log held p clock known NotPeer peer_not_bad peer_not_fault k
push_session made owned own log held p clock known pad (Peer number version) visit op m k t =
    let taken = received own op (log, held) in
    split (is_closed owned)
    (λ e. rw e (unheard made owned own log held p clock known PadClosed closed_not_bad closed_not_fault k))
    (λ e. rw e (settles made owned own log held p clock known taken.0 taken.1.0 taken.1.1 m t))

-- a step whose act brings an operation that was made
pub push_step : (made : List Op) (owned : Option Owned) (own : ℕ) (log held : List Op) (p : Presence) (clock : ℕ) (known : Made) (pad : List ℕ)
    (who : Who) (visit : Option ℕ) (op : Op) → IsMade made → Keeps made own log held →
    IsTakenIn made own (received own op (log, held)) →
    IsPushStep made own (step pad who visit (act.Push op) (pad_with owned own log held p clock known))
push_step made None own log held p clock known pad who visit op m k t = record {
  in_limits = λ e. absurd (not_bad (same_err NoPad BadOp e));
  in_order = λ e. absurd (not_fault (same_err NoPad PeerFault e));
  replica = refl;
  kept = k;
}
push_step made (Some owned) own log held p clock known pad who visit op m k t =
    split (bytes_eq owned.name pad)
    (λ e. rw e (push_session made (Some owned) own log held p clock known owned who visit op m k t))
    (λ e. rw e (elsewhere made owned own log held p clock known k))
  where
    elsewhere : (made : List Op) (owned : Owned) (own : ℕ) (log held : List Op) (p : Presence) (clock : ℕ) (known : Made) →
        Keeps made own log held → IsPushStep made own (Ok reply.Elsewhere, pad_with (Some owned) own log held p clock known)
    elsewhere made owned own log held p clock known k = record {
      in_limits = λ e. absurd (answered reply.Elsewhere BadOp e);
      in_order = λ e. absurd (answered reply.Elsewhere PeerFault e);
      replica = refl;
      kept = k;
    }

-- an event leaves what the machine's step leaves, or the machine as it was, or what a release that stopped leaves
pub data Leaves (old : Machine) (event : PadEvent) (new : Machine) : Type 0 where
  nothing : new ≡ old → Leaves old event new
  answer : new ≡ (event_step event old).1 → Leaves old event new
  stopped : (op : Op) → event.act.now ≡ act.Push op → (n : ℕ) → (new.log, new.held)
      ≡ both_of (steps n (unsettled (received old.replica op (old.log, old.held)).1)) → new.replica ≡ old.replica →
      Leaves old event new

pub left_by : (old new : Machine) (event : PadEvent) (told : Result PadReply Refusal) → Stepped old event told new →
    Leaves old event new
left_by old new event told (inl (inl h)) = nothing h.1
left_by old new event told (inl (inr h)) = answer (sym (ap (λ p. p.1) h))
left_by old new event told (inr h) = cut h.1
  where
    cut : IsCutShort event.pad.now event.who.now event.act.now old new → Leaves old event new
    cut c = stopped c.2 c.3 c.4.1 c.4.2 (ap (λ (m : Machine). m.replica) c.5)
