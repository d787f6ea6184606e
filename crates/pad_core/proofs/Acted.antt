-- From what an act does to a part of a pad to what it does to the pad.
use Rattle.std.proofs.Common.{◌≡◌, ◌≤◌, Bool, true, false, cond, bytes_eq, inl, inr, ℕ, List, length, Option, Some}
use Rattle.std.proofs.Common.{Result, Ok, Err, IsTrue, refl, sym, ap, ap₂, ◌∙◌}
use Rattle.std.proofs.Common.{subst, le-ltb, max, ◌-◌, ◌⊎◌}
use Rattle.std.specs.List.{AllByRecursion}
use Rattle.pad_model.specs.Checked.{is_name}
use Rattle.pad_model.specs.Answers.{Answers}
use Rattle.pad_model.specs.Stamp.{Stamp}
use Rattle.pad_model.specs.Visible.{visible}
use Rattle.pad_model.specs.declared.op.Op.{Op}
use Rattle.pad_model.specs.declared.refusal.Refusal.{Refusal}
use Rattle.pad_model.specs.declared.refusal.Refusal.TheVariants.{Denied, Memory, PadClosed}
use Rattle.pad_model.specs.declared.who.Version.{Version}
use Rattle.pad_model.specs.declared.who.Who.TheVariants.{Peer}
use Rattle.presence.specs.Presence.{Presence, with_caret}
use Rattle.pad_core.specs.Closing.{is_closed}
use Rattle.pad_core.specs.Counts.{characters_at}
use Rattle.pad_core.specs.Machine.{IsOwned, IsPad, Machine, Outcome, applied, author_act, author_outcome, name_of}
use Rattle.pad_core.specs.Machine.{on_delivery, on_log, peer_act}
use Rattle.pad_core.specs.Machine.Outcome.{writes}
use Rattle.pad_core.specs.Exchange.{Stopped, push}
use Rattle.pad_core.specs.Ran.{IsCutShort}
use Rattle.pad_core.specs.Restart.{delivered_again, restore_operation}
use Rattle.pad_core.specs.Times.{timed}
use Rattle.op_log.specs.Made.{Made, more}
use Rattle.op_log.specs.Times.{last_time}
use Rattle.rights.specs.Rights.{Rights, can_have, hand as handed}
use Rattle.rights.specs.declared.grantee.Grantee.{Grantee}
use Rattle.rights.specs.declared.right.Right.{Right}
use Rattle.rights.proofs.CallerLemmas.{can_have_name, grant_has, hand_has}
use Rattle.pad_core.specs.Edits.{before_place}
use Rattle.pad_core.specs.Grants.{grant, hand, told_done}
use Rattle.pad_core.specs.Presence.{put_caret}
use Rattle.pad_core.proofs.Timed.{timed_same}
use Rattle.pad_core.specs.declared.act.Act.{Act}
use Rattle.pad_core.specs.declared.act.Act.TheVariants as act
use Rattle.pad_core.specs.declared.owned.Owned.{Owned}
use Rattle.pad_core.specs.declared.reply.PadReply.{PadReply}
use Rattle.pad_core.specs.declared.reply.PadReply.TheVariants.{Done}

-- the machine of its parts
abbrev pub machine : Option Owned → ℕ → List Op → List Op → Presence → ℕ → Made → Machine
machine o replica log held p clock made = record {
  owned = o;
  replica = replica;
  log = log;
  held = held;
  presence = p;
  clock = clock;
  made = made;
}

-- where what is known is filled up to a log's length, each operation that the log got has its time and its visit
pub filled_timed : (clock visit : ℕ) (log new : List Op) (made filled : Made) → length made.times ≡ length log →
    filled ≡ more (length new - length made.times) (max clock (last_time made.times)) visit made →
    filled ≡ timed clock visit log new made
filled_timed clock visit log new made filled long is =
    is ∙ ap (λ n. more (length new - n) (max clock (last_time made.times)) visit made) long

-- an act on the log
pub log_answers : (o : Option Owned) (replica : ℕ) (log new held : List Op) (p : Presence) (clock visit : ℕ)
    (made filled : Made)
    (expected : Result PadReply Refusal × List Op) (result : Result PadReply Refusal) →
    filled ≡ timed clock visit log new made → Answers log expected result new →
    Answers (machine o replica log held p clock made) (on_log (machine o replica log held p clock made) visit expected)
    result (machine o replica new held p clock filled)
log_answers o replica log new held p clock visit made filled expected result fills (inl h) =
    inl (
      h.0,
      ap₂ (λ (l : List Op) (ts : Made). machine o replica l held p clock ts) h.1
          (fills ∙ ap (λ l. timed clock visit log l made) h.1 ∙ timed_same clock visit log made),
      h.2,
    )
log_answers o replica log new held p clock visit made filled expected result fills (inr h) =
    inr (
    ap (λ d. (
      d.0,
      machine o replica d.1 held p clock (timed clock visit log d.1 made),
    )) h
    ∙ ap (λ (ts : Made). (let r : Result PadReply Refusal = result in r, machine o replica new held p clock ts))
    (sym fills)
    )

-- an act of an author that changes the log
pub write_answers : (o : Option Owned) (replica : ℕ) (log new held : List Op) (p : Presence) (clock : ℕ)
    (made filled : Made) (owned : Owned) (name : List ℕ) (visit : ℕ) (this : Act)
    (expected : Result PadReply Refusal × List Op) (result : Result PadReply Refusal) (m : Machine) →
    author_outcome owned name visit this (machine o replica log held p clock made) ≡ writes visit expected →
    length made.times ≡ length log →
    filled ≡ more (length new - length made.times) (max clock (last_time made.times)) visit made →
    Answers log expected result new → machine o replica log held p clock made ≡ m → m.owned ≡ Some owned →
    Answers m (author_act owned name visit this m) result (machine o replica new held p clock filled)
write_answers o replica log new held p clock made filled owned name visit this expected result m outcome long fills
    done same named =
    subst (λ (k : Machine). Answers k (author_act owned name visit this k) result
    (machine o replica new held p clock filled)) same
    (subst (λ (x : Outcome). Answers (machine o replica log held p clock made)
    (applied (Some owned) x (machine o replica log held p clock made)) result
    (machine o replica new held p clock filled)) (sym outcome)
    (log_answers o replica log new held p clock visit made filled expected result
    (filled_timed clock visit log new made filled long fills) done))

-- an operation that a peer pushes
pub push_answers : (o : Option Owned) (replica : ℕ) (log new held held' : List Op) (p : Presence) (clock : ℕ)
    (made filled : Made) (name : List ℕ) (number : ℕ) (version : Version) (this : Act) (op : Op)
    (result : Result PadReply Refusal) (m : Machine) →
    this ≡ act.Push op → length made.times ≡ length log →
    filled ≡ more (length new - length made.times) (max clock (last_time made.times)) 0 made →
    Answers (log, held) (push replica op (log, held)) result (new, held')
    ⊎ ((result ≡ Err Memory) × Stopped replica op (log, held) (new, held')) → is_closed m.owned ≡ false →
    machine o replica log held p clock made ≡ m → name_of m.owned ≡ Some name →
    Answers m (peer_act version this m) result (machine o replica new held' p clock filled)
    ⊎ ((result ≡ Err Memory) × IsCutShort name (Peer number version) this m
    (machine o replica new held' p clock filled))
push_answers o replica log new held held' p clock made filled name number version this op result m is long fills done
    open_yet same named =
    subst (λ (k : Machine). Goal k) same (by_end done (subst (λ (k : Machine). name_of k.owned ≡ Some name) (sym same)
    named) (subst (λ (k : Machine). is_closed k.owned ≡ false) (sym same) open_yet))
  where
    Goal : Machine → Type 0
    Goal k = Answers k (peer_act version this k) result (machine o replica new held' p clock filled)
        ⊎ ((result ≡ Err Memory) × IsCutShort name (Peer number version) this k
        (machine o replica new held' p clock filled))

    old : Machine
    old = machine o replica log held p clock made

    fit : filled ≡ timed clock 0 log new made
    fit = filled_timed clock 0 log new made filled long fills

    by_answer : Answers (log, held) (push replica op (log, held)) result (new, held') →
        Answers old (on_delivery old (push replica op (log, held))) result (machine o replica new held' p clock filled)
    by_answer (inl h) = inl (
      h.0,
      (let kept : new ≡ log = ap (λ (b : List Op × List Op). b.0) h.1 in
          ap₂ (λ (b : List Op × List Op) (ts : Made). machine o replica b.0 b.1 p clock ts) h.1
          (fit ∙ ap (λ l. timed clock 0 log l made) kept ∙ timed_same clock 0 log made)),
      h.2,
    )
    by_answer (inr h) = inr (
        ap (λ d. (d.0, machine o replica d.1.0 d.1.1 p clock (timed clock 0 log d.1.0 made))) h
        ∙ ap (λ (ts : Made). (let r : Result PadReply Refusal = result in r, machine o replica new held' p clock ts))
        (sym fit)
        )

    by_end : Answers (log, held) (push replica op (log, held)) result (new, held')
        ⊎ ((result ≡ Err Memory) × Stopped replica op (log, held) (new, held')) → name_of o ≡ Some name → is_closed o ≡ false → Goal old
    by_end (inl h) called unshut = inl (subst (λ (a : Act). Answers old (peer_act version a old) result
        (machine o replica new held' p clock filled)) (sym is) (rw unshut (by_answer h)))
    by_end (inr h) called unshut = inr (
      h.0,
      (tt, called, op, is, h.1, ap (machine o replica new held' p clock) fit, unshut),
    )

-- a push to a closed pad
pub push_shut : (version : Version) (op : Op) (this : Act) (m : Machine) → this ≡ act.Push op → is_closed m.owned ≡ true →
    peer_act version this m ≡ (Err PadClosed, m)
push_shut version op this m is shut = rw is (rw shut refl)

-- an operation that is delivered again
pub restored_answers : (o : Option Owned) (replica : ℕ) (log new held : List Op) (p : Presence) (clock : ℕ)
    (made filled : Made) (op : Op) (at visit : ℕ) (result : Result (Unit {0}) Refusal) (m : Machine) →
    length made.times ≡ length log →
    filled ≡ more (length new - length made.times) (max at (last_time made.times)) visit made →
    Answers log (delivered_again op log) result new → machine o replica log held p clock made ≡ m →
    Answers m (restore_operation op at visit m) result (machine o replica new held p clock filled)
restored_answers o replica log new held p clock made filled op at visit result m long fills done same =
    subst (λ (k : Machine). Answers k (restore_operation op at visit k) result
    (machine o replica new held p clock filled)) same (by_end done)
  where
    old : Machine
    old = machine o replica log held p clock made

    fit : filled ≡ timed at visit log new made
    fit = filled_timed at visit log new made filled long fills

    by_end : Answers log (delivered_again op log) result new →
        Answers old (restore_operation op at visit old) result (machine o replica new held p clock filled)
    by_end (inl h) = inl (
      h.0,
      ap₂ (λ (l : List Op) (ts : Made). machine o replica l held p clock ts) h.1
          (fit ∙ ap (λ l. timed at visit log l made) h.1 ∙ timed_same at visit log made),
      h.2,
    )
    by_end (inr h) = inr (
        ap (λ d. (d.0, machine o replica d.1 held p clock (timed at visit log d.1 made))) h
        ∙ ap (λ (ts : Made). (let r : Result (Unit {0}) Refusal = result in r, machine o replica new held p clock ts))
        (sym fit)
        )

-- each author with a right has a name, also after a grant to who can have it
pub granted_names : (now : ℕ) (grantee : Grantee) (given : Option Right) (old new : Rights)
    (result : Result PadReply Refusal) → Answers old (grant now grantee given old) result new →
    can_have grantee given ≡ true →
    IsTrue (is_name old.owner) × AllByRecursion (λ e. IsTrue (is_name e.0)) old.grants → IsTrue (is_name new.owner)
    × AllByRecursion (λ e. IsTrue (is_name e.0)) new.grants
granted_names now grantee given old new result (inl h) can kept =
    subst (λ (b : Rights). IsTrue (is_name b.owner) × AllByRecursion (λ e. IsTrue (is_name e.0)) b.grants)
    (sym h.1) kept
granted_names now grantee given old new result (inr h) can kept =
    subst (λ (b : Rights). IsTrue (is_name b.owner) × AllByRecursion (λ e. IsTrue (is_name e.0)) b.grants)
    (ap (λ p. p.1) h) (grant_has (λ n. IsTrue (is_name n)) old grantee given (can_have_name grantee given can) kept)

-- a pad whose rights were changed
pub IsPad-granted : (o : Option Owned) (replica : ℕ) (held : List Op) (p : Presence) (owned : Owned) (now : ℕ)
    (grantee : Grantee) (given : Option Right) (new : Rights) (result : Result PadReply Refusal) →
    IsPad o replica held p → o ≡ Some owned → can_have grantee given ≡ true →
    Answers owned.rights (grant now grantee given owned.rights) result new →
    IsPad (Some (record owned { rights = new })) replica held p
IsPad-granted o replica held p owned now grantee given new result kept is can done = record {
  named =
      let was = subst (λ (x : Option Owned). IsOwned x p) is kept.named in
      let names = granted_names now grantee given owned.rights new result done can (was.0, was.1) in
      (names.0, names.1, was.2);
  replica_low = kept.replica_low;
  replica_high = kept.replica_high;
  waiting = kept.waiting;
}

-- the same after a hand-over by one name to another
hand_kept : (now : ℕ) (author : List ℕ) (old : Rights) (by_owner : Bool) → IsTrue (is_name author) →
    IsTrue (is_name old.owner) × AllByRecursion (λ e. IsTrue (is_name e.0)) old.grants →
    (let after = (cond by_owner (told_done now (handed old author).0, (handed old author).1)
    (let r : Result PadReply Refusal × Rights = (Err Denied, old) in r)).1 in IsTrue (is_name after.owner)
    × AllByRecursion (λ e. IsTrue (is_name e.0)) after.grants)
hand_kept now author old true one kept = hand_has (λ n. IsTrue (is_name n)) old author one kept
hand_kept now author old false one kept = kept

handed_names : (now : ℕ) (asker author : List ℕ) (old new : Rights) (result : Result PadReply Refusal) →
    Answers old (hand now asker author old) result new → IsTrue (is_name author) →
    IsTrue (is_name old.owner) × AllByRecursion (λ e. IsTrue (is_name e.0)) old.grants → IsTrue (is_name new.owner)
    × AllByRecursion (λ e. IsTrue (is_name e.0)) new.grants
handed_names now asker author old new result (inl h) one kept =
    subst (λ (b : Rights). IsTrue (is_name b.owner) × AllByRecursion (λ e. IsTrue (is_name e.0)) b.grants)
    (sym h.1) kept
handed_names now asker author old new result (inr h) one kept =
    subst (λ (b : Rights). IsTrue (is_name b.owner) × AllByRecursion (λ e. IsTrue (is_name e.0)) b.grants)
    (ap (λ p. p.1) h) (hand_kept now author old (bytes_eq asker old.owner) one kept)

-- a pad that was handed over
pub IsPad-handed : (o : Option Owned) (replica : ℕ) (held : List Op) (p : Presence) (owned : Owned) (now : ℕ)
    (asker author : List ℕ) (new : Rights) (result : Result PadReply Refusal) → IsPad o replica held p →
    o ≡ Some owned → IsTrue (is_name author) → Answers owned.rights (hand now asker author owned.rights) result new →
    IsPad (Some (record owned { rights = new })) replica held p
IsPad-handed o replica held p owned now asker author new result kept is one done = record {
  named =
      let was = subst (λ (x : Option Owned). IsOwned x p) is kept.named in
      let names = handed_names now asker author owned.rights new result done one (was.0, was.1) in
      (names.0, names.1, was.2);
  replica_low = kept.replica_low;
  replica_high = kept.replica_high;
  waiting = kept.waiting;
}

-- a pad that was closed, or opened again
pub IsPad-closed : (o : Option Owned) (replica : ℕ) (held : List Op) (p now : Presence) (owned : Owned)
    (closed : Bool) → IsPad o replica held p → o ≡ Some owned →
    IsPad (Some (record owned { closed = closed })) replica held now
IsPad-closed o replica held p now owned closed kept is = record {
  named = subst (λ (x : Option Owned). IsOwned x p) is kept.named;
  replica_low = kept.replica_low;
  replica_high = kept.replica_high;
  waiting = kept.waiting;
}

-- a caret that is put after the character before a place
pub caret_is_put : (rev at visit : ℕ) (log : List Op) (p new : Presence) (now shown : ℕ) (stamp : Option Stamp) →
    now ≡ length log → rev ≤ now → shown ≡ length (visible (characters_at rev log)) → at ≤ shown →
    stamp ≡ before_place (characters_at rev log) at →
    new ≡ record p { present = with_caret stamp visit p.present } → put_caret rev at visit log p ≡ (Ok (Done now), new)
caret_is_put rev at visit log p new now shown stamp now_is there shown_is within stamp_is new_is =
    rw (
      le-ltb (length log) rev (subst (λ n. rev ≤ n) now_is there),
      le-ltb (length (visible (characters_at rev log))) at (subst (λ n. at ≤ n) shown_is within),
    )
    (ap₂ (λ (n : ℕ) (q : Presence). (let done : Result PadReply Refusal = Ok (Done n) in (done, q))) (sym now_is)
    (ap (λ (s : Option Stamp). record p { present = with_caret s visit p.present }) (sym stamp_is) ∙ sym new_is))
