-- What a server keeps of the operations that were made, through pushes and releases.
use Rattle.std.proofs.Common.{◌≡◌, ◌≢◌, ℕ, zero, suc, ◌+◌, ◌≤◌, ◌⊎◌, inl, inr, Bool, true, false, not, ◌||◌, cond, eqb}
use Rattle.std.proofs.Common.{leb, ltb, nat_le, List, [], ◌∷◌, ◌++◌, length, Option, Some, None, Result, Ok, Err, refl}
use Rattle.std.proofs.Common.{sym, ap, ◌∙◌, subst, arith, eqb-true, le-leb}
use Rattle.std.proofs.lemmas.Bool.{and_parts, or_left, both_ways, cases_eq, cond-true, cond-false}
use Rattle.std.specs.List.{find}
use Rattle.pad_model.specs.History.{IsHistory}
use Rattle.pad_model.specs.Log.{is_valid}
use Rattle.pad_model.specs.Operation.{characters_in, inserted_by}
use Rattle.pad_model.specs.Seen.{count_in}
use Rattle.pad_model.specs.declared.limits.TheConstants.{MAX_CHARACTERS, MAX_OPERATIONS}
use Rattle.pad_model.specs.declared.op.Op.{Op}
use Rattle.pad_model.specs.declared.op.OpName.{OpName}
use Rattle.pad_model.specs.declared.seen.Counted.{Counted}
use Rattle.pad_model.specs.declared.refusal.Refusal.{Refusal}
use Rattle.pad_model.specs.declared.refusal.Refusal.TheVariants.{BadOp, PeerFault, HoldFull, PadFull, LogFull}
use Rattle.pad_model.specs.declared.refusal.Refusal.TheVariants.{CommentsFull}
use Rattle.pad_model.proofs.Filters.{Has-filter}
use Rattle.pad_model.proofs.Newer.{split}
use Rattle.pad_model.proofs.SeenLemmas.{count_in-with_other}
use Rattle.pad_model.proofs.Sets.{Has, Has-permutation, Has-from_Contains, Contains-from_Has}
use Rattle.holdback.specs.Held.{is_covered, is_held, is_ready, has_name, with_held, without}
use Rattle.holdback.specs.declared.held.TheConstants.{MAX_HELD}
use Rattle.holdback.proofs.Members.{permutation_with}
use Rattle.std.proofs.lemmas.List.Sorted.{IsPermutation-sym}
use Rattle.pad_core.specs.Counts.{AreNumbered, vector_of}
use Rattle.pad_core.specs.Delivered.{IsDelivered, delivery_refusal}
use Rattle.pad_core.specs.Exchange.{Delivery, delivered, received, release, steps, taken_out}
use Rattle.pad_core.specs.declared.reply.Pushed.{Pushed}
use Rattle.pad_core.specs.declared.reply.Pushed.TheVariants.{Repeat, Held, Delivered}
use Rattle.pad_core.proofs.Counted.{reached}
use Rattle.pad_core.proofs.Entered.{IsDelivered-push}
use Rattle.pad_core.proofs.Receives.{received_repeat, received_ready, received_full, received_held}
use Rattle.pad_core.proofs.Releases.{release_found, release_idle}
use Rattle.pad_core.proofs.SameSet.{has_front, has_either}
use Rattle.federation_laws.specs.Past.{IsMadeBehind}
use Rattle.federation_laws.proofs.Carries.{carries, history_checked}
use Rattle.federation_laws.proofs.Numbers.{in_log, number_low}

-- the operations that were made: in the order of making they are a history, and each was made after a past
pub record IsMade (made : List Op) : Type 0 where
  pub history : IsHistory made
  pub numbered : AreNumbered [] made
  pub each : (op : Op) → Has made op → (past : List Op) × IsMadeBehind made past op

-- what a server keeps: a log that a pad can have, of operations that were made, its own among them; what it holds was
-- made too
pub record Keeps (made : List Op) (own : ℕ) (log held : List Op) : Type 0 where
  pub delivered : IsDelivered log
  pub within : (op : Op) → Has log op → Has made op
  pub waiting : (op : Op) → Has held op → Has made op
  pub mine : (op : Op) → Has made op → op.name.origin ≡ own → Has log op

-- an operation that is ready finds its past, and no more of its origin
past_there : (made log past : List Op) (op one : Op) → IsMade made → AreNumbered [] log →
    ((x : Op) → Has log x → Has made x) → IsMadeBehind made past op → is_ready (vector_of log) op ≡ true →
    Has past one → Has log one
past_there made log past op one m n within behind ready h =
    in_log made log one m.numbered n within
    (Has-from_Contains made one (behind.within one (Contains-from_Has past one h)))
    (low (cases_eq one.name.origin op.name.origin))
  where
    low : (one.name.origin ≡ op.name.origin) ⊎ (one.name.origin ≡ op.name.origin → ⊥) → one.name.number
        ≤ count_in (vector_of log) one.name.origin
    low (inl same) =
        let number : op.name.number ≡ count_in (vector_of log) op.name.origin + 1 =
        eqb-true op.name.number (count_in (vector_of log) op.name.origin + 1) (and_parts _ _ ready).0 in
        let next : op.name.number ≡ count_in (vector_of past) op.name.origin + 1 = behind.next in
        let least : one.name.number ≤ count_in (vector_of past) op.name.origin =
        subst (λ o. one.name.number ≤ count_in (vector_of past) o) same (number_low past one behind.numbered h) in
        subst (λ o. one.name.number ≤ count_in (vector_of log) o) (sym same) (omega arith)
    low (inr other) =
        let least : one.name.number ≤ count_in (vector_of past) one.name.origin =
        number_low past one behind.numbered h in
        let seen : count_in op.seen one.name.origin ≡ count_in (vector_of past) one.name.origin =
        ap (λ (v : List Counted). count_in v one.name.origin) behind.seen
        ∙ count_in-with_other (vector_of past) op.name.origin 0 one.name.origin other
        in
        let most : count_in op.seen one.name.origin ≤ count_in (vector_of log) one.name.origin =
        reached (vector_of log) op.seen one.name.origin
        (and_parts (eqb op.name.number (count_in (vector_of log) op.name.origin + 1)) _ ready).1 in
        omega arith

own_there : (made log past : List Op) (op one : Op) → IsMade made → AreNumbered [] log →
    ((x : Op) → Has log x → Has made x) → IsMadeBehind made past op → is_ready (vector_of log) op ≡ true → Has log one →
    one.name.origin ≡ op.name.origin → Has past one
own_there made log past op one m n within behind ready h same =
    let number : op.name.number ≡ count_in (vector_of log) op.name.origin + 1 =
    eqb-true op.name.number (count_in (vector_of log) op.name.origin + 1) (and_parts _ _ ready).0 in
    let next : op.name.number ≡ count_in (vector_of past) op.name.origin + 1 = behind.next in
    let least : one.name.number ≤ count_in (vector_of log) op.name.origin =
    subst (λ o. one.name.number ≤ count_in (vector_of log) o) same (number_low log one n h) in
    in_log made past one m.numbered behind.numbered
    (λ x k. Has-from_Contains made x (behind.within x (Contains-from_Has past x k))) (within one h)
    (subst (λ o. one.name.number ≤ count_in (vector_of past) o) (sym same) (omega arith))

-- so it is valid
pub ready_valid : (made log : List Op) (op : Op) → IsMade made → IsDelivered log → ((x : Op) → Has log x → Has made x) →
    Has made op → is_ready (vector_of log) op ≡ true → is_valid op log ≡ true
ready_valid made log op m d within there ready =
    let behind = m.each op there in
    carries behind.0 log op behind.1.history d.history
    (λ one h. past_there made log behind.0 op one m d.numbered within behind.1 ready h)
    (λ one h same. own_there made log behind.0 op one m d.numbered within behind.1 ready h same)
    (history_checked made op m.history there) behind.1.valid

no_fault : (a b c : Bool) → cond a (Some PadFull) (cond b (Some LogFull) (cond c (Some CommentsFull) None)) ≢ Some
    PeerFault
no_fault true b c e = absurd (cc)
no_fault false true c e = absurd (cc)
no_fault false false true e = absurd (cc)
no_fault false false false e = absurd (cc)

-- what is valid is not refused as a fault
pub valid_no_fault : (op : Op) (log : List Op) → is_valid op log ≡ true → delivery_refusal op log ≢ Some PeerFault
valid_no_fault op log valid e =
    no_fault (ltb MAX_CHARACTERS (length (characters_in log).inserted + length (inserted_by op)))
    (leb MAX_OPERATIONS (length log)) _ (rw valid at e)

-- an operation that is next and not refused is kept
keeps_more : (made : List Op) (own : ℕ) (log held rest : List Op) (op : Op) → IsMade made → Keeps made own log held →
    Has made op → is_ready (vector_of log) op ≡ true → delivery_refusal op log ≡ None →
    ((x : Op) → Has rest x → Has made x) →
    Keeps made own (log ++ op ∷ []) rest
keeps_more made own log held rest op m k there ready none waiting = record {
  delivered = IsDelivered-push log op k.delivered (history_checked made op m.history there) ready none;
  within = λ x h. elim (has_either log (op ∷ []) x h) [ inl old ↦ k.within x old | inr new ↦ last x new ];
  waiting = waiting;
  mine = λ x h own. has_front log (op ∷ []) x (k.mine x h own);
}
  where
    last : (x : Op) → Has (op ∷ []) x → Has made x
    last x (inl is) = subst (Has made) is there
    last x (inr h) = absurd h

keeps_held : (made : List Op) (own : ℕ) (log held rest : List Op) → Keeps made own log held →
    ((x : Op) → Has rest x → Has made x) → Keeps made own log rest
keeps_held made own log held rest k waiting =
    record { delivered = k.delivered; within = k.within; waiting = waiting; mine = k.mine }

same_some : (a b : Op) → Some a ≡ Some b → a ≡ b
same_some a b q = cc

-- what is found is in the list, and passes the test
pub found_one : (t : Op → Bool) (held : List Op) (op : Op) → find t held ≡ Some op → Has held op × (t op ≡ true)
found_one t [] op e = absurd (cc)
found_one t (x ∷ held) op e =
    split (t x)
    (λ yes. let same : x ≡ op = same_some x op (sym (cond-true _ _ _ yes) ∙ e) in
    (inl same, subst (λ o. t o ≡ true) same yes))
    (λ no. let rest = found_one t held op (sym (cond-false _ _ _ no) ∙ e) in (inr rest.0, rest.1))

-- a found operation is not refused as a fault
pub found_no_fault : (made : List Op) (own : ℕ) (log held : List Op) (op : Op) → IsMade made → Keeps made own log held →
    find (is_ready (vector_of log)) held ≡ Some op → delivery_refusal op log ≢ Some PeerFault
found_no_fault made own log held op m k found =
    let here = found_one (is_ready (vector_of log)) held op found in
    valid_no_fault op log (ready_valid made log op m k.delivered k.within (k.waiting op here.0) here.1)

without_waits : (made held : List Op) (name : OpName) → ((x : Op) → Has held x → Has made x) → (x : Op) →
    Has (without name held) x → Has made x
without_waits made held name waiting x h = waiting x (Has-filter (λ op. not (has_name name op)) held x h).0

keeps_taken : (made : List Op) (own : ℕ) (d : Delivery) (op : Op) (r : Option Refusal) → IsMade made →
    Keeps made own d.log d.held → find (is_ready (vector_of d.log)) d.held ≡ Some op → delivery_refusal op d.log ≡ r →
    Keeps made own (taken_out op r d).log (taken_out op r d).held
keeps_taken made own d op None m k found refused =
    let here = found_one (is_ready (vector_of d.log)) d.held op found in
    keeps_more made own d.log d.held (without op.name d.held) op m k (k.waiting op here.0) here.1 refused
    (without_waits made d.held op.name k.waiting)
keeps_taken made own d op (Some refusal) m k found refused = keeps_held made own d.log d.held (without op.name d.held) k
    (without_waits made d.held op.name k.waiting)

-- a step of a release keeps it
keeps_release : (made : List Op) (own : ℕ) (d : Delivery) → IsMade made → Keeps made own d.log d.held →
    Keeps made own (release d).log (release d).held
keeps_release made own d m k = at (find (is_ready (vector_of d.log)) d.held) refl
  where
    at : (r : Option Op) → find (is_ready (vector_of d.log)) d.held ≡ r →
        Keeps made own (release d).log (release d).held
    at None e = subst (λ (x : Delivery). Keeps made own x.log x.held) (sym (release_idle d e)) k
    at (Some op) e =
        subst (λ (x : Delivery). Keeps made own x.log x.held)
        (sym (release_found d op (delivery_refusal op d.log) e refl))
        (keeps_taken made own d op (delivery_refusal op d.log) m k e refl)

-- and so do several
pub keeps_steps : (made : List Op) (own n : ℕ) (d : Delivery) → IsMade made → Keeps made own d.log d.held →
    Keeps made own (steps n d).log (steps n d).held
keeps_steps made own zero d m k = k
keeps_steps made own (suc n) d m k = keeps_release made own (steps n d) m (keeps_steps made own n d m k)

-- an operation that was made is received without a fault when pushed, and is kept
pub record IsTakenIn (made : List Op) (own : ℕ) (result : Result Pushed Refusal × (List Op × List Op)) : Type 0 where
  pub in_limits : result.0 ≢ Err BadOp
  pub in_order : result.0 ≢ Err PeerFault
  pub kept : Keeps made own result.1.0 result.1.1

told : (made : List Op) (own : ℕ) (state : Pushed) (log held : List Op) → Keeps made own log held →
    IsTakenIn made own (Ok state, (log, held))
told made own state log held k = record { in_limits = λ e. absurd (no state BadOp e); in_order = λ e. absurd (no state PeerFault e); kept = k }
  where
    no : (state : Pushed) (r : Refusal) → (let answer : Result Pushed Refusal = Ok state in answer) ≡ Err r → ⊥
    no state r e = cc

takes_ready : (made : List Op) (own : ℕ) (op : Op) (r : Option Refusal) (log held : List Op) → IsMade made →
    Keeps made own log held → Has made op → is_ready (vector_of log) op ≡ true → delivery_refusal op log ≡ r →
    IsTakenIn made own (delivered op r log held)
takes_ready made own op None log held m k there ready is = told made own Delivered (log ++ op ∷ []) held
    (keeps_more made own log held held op m k there ready is k.waiting)
takes_ready made own op (Some refusal) log held m k there ready is = record {
  in_limits = λ e. limit_no_bad op log (is ∙ ap Some (same_refusal refusal BadOp e));
  in_order = λ e. valid_no_fault op log (ready_valid made log op m k.delivered k.within there ready)
      (is ∙ ap Some (same_refusal refusal PeerFault e));
  kept = k;
}
  where
    same_refusal : (a b : Refusal) → (let r : Result Pushed Refusal = Err a in r) ≡ Err b → a ≡ b
    same_refusal a b e = cc

    no_bad : (v a b c : Bool) → cond v (Some PeerFault)
        (cond a (Some PadFull) (cond b (Some LogFull) (cond c (Some CommentsFull) None))) ≢ Some BadOp
    no_bad true a b c e = absurd (cc)
    no_bad false true b c e = absurd (cc)
    no_bad false false true c e = absurd (cc)
    no_bad false false false true e = absurd (cc)
    no_bad false false false false e = absurd (cc)

    limit_no_bad : (op : Op) (log : List Op) → delivery_refusal op log ≢ Some BadOp
    limit_no_bad op log e = no_bad (not (is_valid op log))
        (ltb MAX_CHARACTERS (length (characters_in log).inserted + length (inserted_by op)))
        (leb MAX_OPERATIONS (length log)) _ e

-- one's own operation is covered
own_covered : (made : List Op) (own : ℕ) (op : Op) (log held : List Op) → Keeps made own log held → Has made op →
    eqb op.name.origin own ≡ true → is_covered (vector_of log) op.name ≡ true
own_covered made own op log held k there e =
    le-leb op.name.number (count_in (vector_of log) op.name.origin)
    (number_low log op k.delivered.numbered (k.mine op there (eqb-true op.name.origin own e)))

with_waits : (made held : List Op) (op : Op) → Has made op → ((x : Op) → Has held x → Has made x) → (x : Op) →
    Has (with_held op held) x → Has made x
with_waits made held op there waiting x h =
    at (Has-permutation (with_held op held) (op ∷ held) x (IsPermutation-sym (op ∷ held) (with_held op held)
    (permutation_with op held)) h)
  where
    at : (op ≡ x) ⊎ Has held x → Has made x
    at (inl is) = subst (Has made) is there
    at (inr m) = waiting x m

-- what a push receives
pub takes_in : (made : List Op) (own : ℕ) (op : Op) (log held : List Op) → IsMade made → Keeps made own log held →
    Has made op → IsTakenIn made own (received own op (log, held))
takes_in made own op log held m k there =
    let checked = history_checked made op m.history there in
    split (is_covered (vector_of log) op.name || is_held op.name held)
    (λ known. subst (IsTakenIn made own) (sym (received_repeat own op log held checked known))
    (told made own Repeat log held k))
    (λ new. split (eqb op.name.origin own)
    (λ mine. absurd (both_ways _ new (or_left (is_covered (vector_of log) op.name) (is_held op.name held)
    (own_covered made own op log held k there mine))))
    (λ other. split (is_ready (vector_of log) op)
    (λ ready. subst (IsTakenIn made own) (sym (received_ready own op log held checked new other ready))
    (takes_ready made own op (delivery_refusal op log) log held m k there ready refl))
    (λ waits. split (nat_le MAX_HELD (length held))
    (λ full. subst (IsTakenIn made own) (sym (received_full own op log held checked new other waits full))
    (no_room made own log held k))
    (λ room. subst (IsTakenIn made own) (sym (received_held own op log held checked new other waits room))
    (told made own Held log (with_held op held)
    (keeps_held made own log held (with_held op held) k (with_waits made held op there k.waiting)))))))
  where
    no_room : (made : List Op) (own : ℕ) (log held : List Op) → Keeps made own log held →
        IsTakenIn made own (Err HoldFull, (log, held))
    no_room made own log held k = record { in_limits = λ e. absurd (bad e); in_order = λ e. absurd (fault e); kept = k }
      where
        bad : (let r : Result Pushed Refusal = Err HoldFull in r) ≡ Err BadOp → ⊥
        bad e = cc

        fault : (let r : Result Pushed Refusal = Err HoldFull in r) ≡ Err PeerFault → ⊥
        fault e = cc
