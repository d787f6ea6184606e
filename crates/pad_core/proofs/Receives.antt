-- What a push receives, case by case.
use Rattle.std.proofs.Common.{◌≡◌, ℕ, inl, inr, ◌||◌, eqb, Bool, true, false, nat_le, List, [], ◌∷◌, length}
use Rattle.std.proofs.Common.{◌≤◌, ◌↔◌, IsTrue, le-leb, leb-true, eq-eqb, Option, is_some, Result, Ok, Err, refl, sym}
use Rattle.std.proofs.Common.{ap, ap₂, ◌∙◌, subst}
use Rattle.std.specs.List.{find}
use Rattle.pad_model.specs.Answers.{Answers}
use Rattle.pad_model.specs.Checked.{is_checked}
use Rattle.pad_model.specs.Seen.{count_in}
use Rattle.pad_model.specs.declared.op.Op.{Op}
use Rattle.pad_model.specs.declared.op.OpName.{OpName}
use Rattle.pad_model.specs.declared.seen.Counted.{Counted}
use Rattle.pad_model.specs.declared.refusal.Refusal.{Refusal}
use Rattle.pad_model.specs.declared.refusal.Refusal.TheVariants.{PeerFault, HoldFull}
use Rattle.pad_model.proofs.Newer.{split}
use Rattle.holdback.specs.Held.{has_name, is_covered, is_held, is_ready, with_held}
use Rattle.holdback.specs.declared.held.TheConstants.{MAX_HELD}
use Rattle.pad_core.specs.Counts.{vector_of}
use Rattle.pad_core.specs.Delivered.{delivery_refusal}
use Rattle.pad_core.specs.Exchange.{delivered, received, settled, waiting}
use Rattle.pad_core.specs.declared.reply.PadReply.{PadReply}
use Rattle.pad_core.specs.declared.reply.Pushed.{Pushed}
use Rattle.pad_core.specs.declared.reply.Pushed.TheVariants.{Repeat, Held}
use Rattle.pad_core.proofs.Releases.{AreChecked, with_checked}

-- an operation is held just where its name finds one
pub found_held : (name : OpName) (held : List Op) → is_some (find (has_name name) held) ≡ is_held name held
found_held name [] = refl
found_held name (x ∷ held) = split (has_name name x) (λ yes. rw yes refl) (λ no. rw no (found_held name held))

-- what a push receives, case by case
pub received_repeat : (own : ℕ) (op : Op) (log held : List Op) → is_checked op ≡ true →
    (is_covered (vector_of log) op.name || is_held op.name held) ≡ true → received own op (log, held)
    ≡ (Ok Repeat, (log, held))
received_repeat own op log held checked known = rw (checked, known) refl

pub received_own : (own : ℕ) (op : Op) (log held : List Op) → is_checked op ≡ true →
    (is_covered (vector_of log) op.name || is_held op.name held) ≡ false → eqb op.name.origin own ≡ true →
    received own op (log, held) ≡ (Err PeerFault, (log, held))
received_own own op log held checked new here = rw (checked, new, here) refl

pub received_ready : (own : ℕ) (op : Op) (log held : List Op) → is_checked op ≡ true →
    (is_covered (vector_of log) op.name || is_held op.name held) ≡ false → eqb op.name.origin own ≡ false →
    is_ready (vector_of log) op ≡ true →
    received own op (log, held) ≡ delivered op (delivery_refusal op log) log held
received_ready own op log held checked new other ready = rw (checked, new, other, ready) refl

pub received_full : (own : ℕ) (op : Op) (log held : List Op) → is_checked op ≡ true →
    (is_covered (vector_of log) op.name || is_held op.name held) ≡ false → eqb op.name.origin own ≡ false →
    is_ready (vector_of log) op ≡ false → nat_le MAX_HELD (length held) ≡ true →
    received own op (log, held) ≡ (Err HoldFull, (log, held))
received_full own op log held checked new other waits full = rw (checked, new, other, waits, full) refl

pub received_held : (own : ℕ) (op : Op) (log held : List Op) → is_checked op ≡ true →
    (is_covered (vector_of log) op.name || is_held op.name held) ≡ false → eqb op.name.origin own ≡ false →
    is_ready (vector_of log) op ≡ false → nat_le MAX_HELD (length held) ≡ false →
    received own op (log, held) ≡ (Ok Held, (log, with_held op held))
received_held own op log held checked new other waits room = rw (checked, new, other, waits, room) refl

-- whether a count covers a number
pub covers_is : (b : Bool) (n m : ℕ) → (IsTrue b ↔ (n ≤ m)) → b ≡ nat_le n m
covers_is true n m h = sym (le-leb n m (h.0 refl))
covers_is false n m h = split (nat_le n m)
    (λ e. absurd (Rattle.std.proofs.lemmas.Bool.true≢false (sym (h.1 (leb-true n m e))))) (λ e. sym e)

-- an operation that is covered is known
pub known_covered : (b : Bool) (seen : List Counted) (log held : List Op) (name : OpName) → seen ≡ vector_of log →
    (IsTrue b ↔ (name.number ≤ count_in seen name.origin)) → b ≡ true →
    true ≡ (is_covered (vector_of log) name || is_held name held)
known_covered b seen log held name counts covers holds =
    let covered : nat_le name.number (count_in (vector_of log) name.origin) ≡ true =
    ap (λ (v : List Counted). nat_le name.number (count_in v name.origin)) (sym counts)
    ∙ sym (covers_is b name.number (count_in seen name.origin) covers) ∙ holds in
    sym (ap (λ x. x || is_held name held) covered)

-- otherwise an operation is known if its name finds one that is held
pub known_held : (b found : Bool) (seen : List Counted) (log held : List Op) (name : OpName) (o : Option Op) →
    seen ≡ vector_of log → (IsTrue b ↔ (name.number ≤ count_in seen name.origin)) → b ≡ false →
    o ≡ find (has_name name) held → found ≡ is_some o →
    found ≡ (is_covered (vector_of log) name || is_held name held)
known_held b found seen log held name o counts covers fails finds is =
    let covered : nat_le name.number (count_in (vector_of log) name.origin) ≡ false =
    ap (λ (v : List Counted). nat_le name.number (count_in v name.origin)) (sym counts)
    ∙ sym (covers_is b name.number (count_in seen name.origin) covers) ∙ fails in
    is ∙ ap is_some finds ∙ found_held name held ∙ sym (ap (λ x. x || is_held name held) covered)

-- the answer where the operation was delivered, or refused
pub answer_ready : (own : ℕ) (log more held : List Op) (op : Op) (result : Result Pushed Refusal) → is_checked op
    ≡ true → (is_covered (vector_of log) op.name || is_held op.name held) ≡ false → eqb op.name.origin own ≡ false →
    is_ready (vector_of log) op ≡ true →
    Answers (log, held) (delivered op (delivery_refusal op log) log held) result (more, held) →
    Answers (log, held) (received own op (log, held)) result (more, held)
answer_ready own log more held op result checked fresh other ready done =
    subst (λ x. Answers (log, held) x result (more, held))
    (sym (received_ready own op log held checked fresh other ready)) done

full_answer : (op : Op) (held : List Op) → nat_le MAX_HELD (length held) ≡ true → waiting op held ≡ (Err HoldFull, held)
full_answer op held full = rw full refl

room_answer : (op : Op) (held : List Op) → nat_le MAX_HELD (length held) ≡ false → waiting op held
    ≡ (Ok Held, with_held op held)
room_answer op held room = rw room refl

beside : (log held new : List Op) (result : Result Pushed Refusal) (x : Result Pushed Refusal × List Op) →
    Answers held x result new → Answers {S = List Op × List Op} (log, held) (x.0, (log, x.1)) result (log, new)
beside log held new result x (inl h) = inl (h.0, ap (λ (n : List Op). (log, n)) h.1, h.2)
beside log held new result x (inr h) = inr (ap (λ (p : Result Pushed Refusal × List Op). (p.0, (log, p.1))) h)

-- the answer where it has to wait
pub answer_waits : (own : ℕ) (log held new : List Op) (op : Op) (result : Result Pushed Refusal) → is_checked op
    ≡ true → (is_covered (vector_of log) op.name || is_held op.name held) ≡ false → eqb op.name.origin own ≡ false →
    is_ready (vector_of log) op ≡ false →
    Answers held (waiting op held) result new → Answers (log, held) (received own op (log, held)) result (log, new)
answer_waits own log held new op result checked fresh other waits done =
    split (nat_le MAX_HELD (length held))
    (λ full. subst (λ x. Answers (log, held) x result (log, new))
    (sym (received_full own op log held checked fresh other waits full))
    (beside log held new result (Err HoldFull, held)
    (subst (λ x. Answers held x result new) (full_answer op held full) done)))
    (λ room. subst (λ x. Answers (log, held) x result (log, new))
    (sym (received_held own op log held checked fresh other waits room))
    (beside log held new result (Ok Held, with_held op held)
    (subst (λ x. Answers held x result new) (room_answer op held room) done)))

-- what is held then is as it was, or with the operation
pub waiting_checked : (op : Op) (held new : List Op) (result : Result Pushed Refusal) → IsTrue (is_checked op) →
    AreChecked held → Answers held (waiting op held) result new → AreChecked new
waiting_checked op held new result one each (inl h) = subst AreChecked (sym h.1) each
waiting_checked op held new result one each (inr h) =
    subst AreChecked (ap (λ (x : Result Pushed Refusal × List Op). x.1) h)
    (split (nat_le MAX_HELD (length held))
    (λ full. subst AreChecked (sym (ap (λ (x : Result Pushed Refusal × List Op). x.1) (full_answer op held full))) each)
    (λ room. subst AreChecked (sym (ap (λ (x : Result Pushed Refusal × List Op). x.1) (room_answer op held room)))
    (with_checked op held one each)))

-- the other answers
pub answer_known : (own : ℕ) (log held : List Op) (op : Op) → is_checked op ≡ true →
    (is_covered (vector_of log) op.name || is_held op.name held) ≡ true →
    Answers (log, held) (received own op (log, held)) (Ok Repeat) (log, held)
answer_known own log held op checked known = inr (received_repeat own op log held checked known)

pub answer_own : (own : ℕ) (log held : List Op) (op : Op) → is_checked op ≡ true →
    (is_covered (vector_of log) op.name || is_held op.name held) ≡ false → op.name.origin ≡ own →
    Answers (log, held) (received own op (log, held)) (Err PeerFault) (log, held)
answer_own own log held op checked fresh here =
    inr (received_own own op log held checked fresh (eq-eqb op.name.origin own here))

-- a push that is refused releases nothing
pub push_refused : (old new : List Op × List Op) (e : Refusal) (x : Result Pushed Refusal × (List Op × List Op)) →
    Answers old x (Err e) new → Answers old (settled x) (Err e) new
push_refused old new e (Ok state, now) (inl h) = inl (cc, h.1, refl)
push_refused old new e (Ok state, now) (inr h) = absurd (ok_err (ap (λ p. p.0) h))
  where
    ok_err : (let r : Result Pushed Refusal = Ok state in r) ≡ Err e → ⊥
    ok_err q = cc
push_refused old new e (Err refusal, now) (inl h) = absurd (cc)
push_refused old new e (Err refusal, now) (inr h) =
    inr (ap₂ (λ (r : Refusal) (n : List Op × List Op). ((let x : Result PadReply Refusal = Err r in x), n))
    (err_is (ap (λ p. p.0) h)) (ap (λ p. p.1) h))
  where
    err_is : (let r : Result Pushed Refusal = Err refusal in r) ≡ Err e → refusal ≡ e
    err_is q = cc
