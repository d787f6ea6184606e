-- A release step by step: what it takes out, and when it stops.
use Rattle.std.proofs.Common.{◌≡◌, ℕ, zero, suc, ◌+◌, ◌-◌, ◌≤◌, Bool, true, false, not, cond, inl, inr, List, [], ◌∷◌}
use Rattle.std.proofs.Common.{length, Result, Ok, Err, Option, Some, None, option_map, IsTrue, refl, sym, ap, ap₂}
use Rattle.std.proofs.Common.{◌∙◌, subst, arith}
use Rattle.std.specs.List.{AllByRecursion, find}
use Rattle.pad_model.specs.Answers.{Answers}
use Rattle.pad_model.specs.Checked.{is_checked}
use Rattle.pad_model.specs.declared.op.Op.{Op}
use Rattle.pad_model.specs.declared.op.OpName.{OpName}
use Rattle.pad_model.specs.declared.seen.Counted.{Counted}
use Rattle.pad_model.specs.declared.refusal.Refusal.{Refusal}
use Rattle.pad_model.specs.declared.refusal.Refusal.TheVariants.{Memory}
use Rattle.pad_model.proofs.Newer.{split}
use Rattle.holdback.specs.Held.{IsRising, has_name, is_ready, with_held, without}
use Rattle.pad_model.specs.Log.{precedes}
use Rattle.holdback.proofs.Next.{named_first}
use Rattle.pad_core.specs.Counts.{vector_of}
use Rattle.pad_core.specs.Delivered.{delivery_refusal}
use Rattle.pad_core.specs.Exchange.{IsStuck, Delivery, release, settle, steps, taken_out}

-- each held operation is in its limits
abbrev pub AreChecked : List Op → Type 0
AreChecked held = AllByRecursion (λ op. IsTrue (is_checked op)) held

-- so is one that is found
pub found_checked : (t : Op → Bool) (held : List Op) (op : Op) → AreChecked held → find t held ≡ Some op →
    IsTrue (is_checked op)
found_checked t [] op h e = absurd (cc)
found_checked t (x ∷ held) op h e =
    split (t x)
    (λ yes. let here : Some x ≡ Some op = sym (ap (λ b. cond b (Some x) (find t held)) yes) ∙ e in
    subst (λ o. IsTrue (is_checked o)) (same_some x op here) h.0)
    (λ no. found_checked t held op h.1 (sym (ap (λ b. cond b (Some x) (find t held)) no) ∙ e))
  where
    same_some : (a b : Op) → Some a ≡ Some b → a ≡ b
    same_some a b q = cc

either_checked : (b : Bool) (x : Op) (rest : List Op) → IsTrue (is_checked x) → AreChecked rest →
    AreChecked (cond b (x ∷ rest) rest)
either_checked true x rest one h = (one, h)
either_checked false x rest one h = h

-- and those that stay
pub without_checked : (name : OpName) (held : List Op) → AreChecked held → AreChecked (without name held)
without_checked name [] h = tt
without_checked name (x ∷ held) h = either_checked (not (has_name name x)) x (without name held) h.0
    (without_checked name held h.1)

placed_checked : (b : Bool) (x op : Op) (held rest : List Op) → IsTrue (is_checked op) → AreChecked (x ∷ held) →
    AreChecked rest → AreChecked (cond b (x ∷ rest) (op ∷ x ∷ held))
placed_checked true x op held rest one h r = (h.0, r)
placed_checked false x op held rest one h r = (one, h)

-- and those with one more
pub with_checked : (op : Op) (held : List Op) → IsTrue (is_checked op) → AreChecked held →
    AreChecked (with_held op held)
with_checked op [] one h = (one, tt)
with_checked op (x ∷ held) one h = placed_checked (precedes x.name op.name) x op held (with_held op held) one h
    (with_checked op held one h.1)

some_none : (name : OpName) → Some name ≡ None → ⊥
some_none name q = cc

-- the operation that the name of the next one finds is the next one, by the counts of a log
pub next_of : (log held : List Op) (seen : List Counted) (name : OpName) → seen ≡ vector_of log → IsRising held →
    Some name ≡ option_map (λ (o : Op). o.name) (find (is_ready seen) held) →
    find (has_name name) held ≡ find (is_ready (vector_of log)) held
next_of log held seen name counts rising next = at (find (is_ready (vector_of log)) held) refl
  where
    named_so : (a b : OpName) → Some a ≡ Some b → a ≡ b
    named_so a b q = cc

    said : Some name ≡ option_map (λ (o : Op). o.name) (find (is_ready (vector_of log)) held)
    said = next ∙ ap (λ (v : List Counted). option_map (λ (o : Op). o.name) (find (is_ready v) held)) counts

    at : (r : Option Op) → find (is_ready (vector_of log)) held ≡ r → find (has_name name) held
        ≡ find (is_ready (vector_of log)) held
    at None e = absurd (some_none name (said ∙ ap (option_map (λ (o : Op). o.name)) e))
    at (Some x) e =
        let named : name ≡ x.name = named_so name x.name (said ∙ ap (option_map (λ (o : Op). o.name)) e) in
        ap (λ n. find (has_name n) held) named ∙ named_first (is_ready (vector_of log)) held x rising e ∙ sym e

-- none is next where none has a name
pub next_none : (seen : List Counted) (held : List Op) → None ≡ option_map (λ (o : Op). o.name)
    (find (is_ready seen) held) → find (is_ready seen) held ≡ None
next_none seen held none = at (find (is_ready seen) held) refl
  where
    none_some : (x : OpName) → (let none : Option OpName = None in none) ≡ Some x → ⊥
    none_some x q = cc

    at : (r : Option Op) → find (is_ready seen) held ≡ r → find (is_ready seen) held ≡ None
    at None e = e
    at (Some x) e = absurd (none_some x.name (none ∙ ap (option_map (λ (o : Op). o.name)) e))

-- a step takes the operation that is found
pub release_found : (d : Delivery) (op : Op) (r : Option Refusal) → find (is_ready (vector_of d.log)) d.held ≡ Some op →
    delivery_refusal op d.log ≡ r → release d ≡ taken_out op r d
release_found d op r found refused = rw (found) (ap (λ x. taken_out op x d) refused)

-- a step changes nothing if no operation is ready
pub release_idle : (d : Delivery) → find (is_ready (vector_of d.log)) d.held ≡ None → release d ≡ d
release_idle d none = rw (none) refl

-- and one that is not
pub appended_err : (old new grown : List Op) (n : ℕ) (e : Refusal) → Answers old (Ok n, grown) (Err e) new →
    (e ≡ Memory) × (new ≡ old)
appended_err old new grown n e (inl h) = (cc, h.1)
appended_err old new grown n e (inr h) = absurd (ok_err (ap (λ p. p.0) h))
  where
    ok_err : (let r : Result ℕ Refusal = Ok n in r) ≡ Err e → ⊥
    ok_err q = cc

-- an operation that is ready and could not be delivered is stuck
pub stuck : (log new held : List Op) (lent op : Op) (r : Option Refusal) → Some lent
    ≡ find (is_ready (vector_of log)) held → op ≡ lent → r ≡ delivery_refusal lent log → r ≡ None → new ≡ log →
    IsStuck (new, held)
stuck log new held lent op r found same judged fine kept = (
  op,
  ap (λ l. find (is_ready (vector_of l)) held) kept ∙ sym found ∙ ap Some (sym same),
  ap₂ delivery_refusal same kept ∙ sym judged ∙ fine,
)

-- if a step changes nothing, no further step does
pub steps_idle : (n k : ℕ) (d : Delivery) → release (steps n d) ≡ steps n d → steps (k + n) d ≡ steps n d
steps_idle n zero d still = let same : 0 + n ≡ n = omega arith in ap (λ (m : ℕ). steps m d) same
steps_idle n (suc k) d still =
    let one : suc k + n ≡ suc (k + n) = omega arith in
    ap (λ (m : ℕ). steps m d) one ∙ ap release (steps_idle n k d still) ∙ still

-- an operation that is found ready is ready
pub ready_found : (seen : List Counted) (held : List Op) (op : Op) → find (is_ready seen) held ≡ Some op →
    is_ready seen op ≡ true
ready_found seen [] op e = absurd (cc)
ready_found seen (x ∷ held) op e =
    split (is_ready seen x)
    (λ yes.
    let here : x ≡ op = same_some x op (sym (ap (λ b. cond b (Some x) (find (is_ready seen) held)) yes) ∙ e) in
    subst (λ (o : Op). is_ready seen o ≡ true) here yes)
    (λ no. ready_found seen held op (sym (ap (λ b. cond b (Some x) (find (is_ready seen) held)) no) ∙ e))
  where
    same_some : (a b : Op) → Some a ≡ Some b → a ≡ b
    same_some a b q = cc

taken_few : (op : Op) (r : Option Refusal) (d : Delivery) → (taken_out op r d).released + (taken_out op r d).dropped
    ≤ d.released + d.dropped + 1
taken_few op None d = omega arith
taken_few op (Some refusal) d = omega arith

release_few : (d : Delivery) → (release d).released + (release d).dropped ≤ d.released + d.dropped + 1
release_few d = at (find (is_ready (vector_of d.log)) d.held) refl
  where
    at : (r : Option Op) → find (is_ready (vector_of d.log)) d.held ≡ r → (release d).released + (release d).dropped
        ≤ d.released + d.dropped + 1
    at None e = subst (λ (x : Delivery). x.released + x.dropped ≤ d.released + d.dropped + 1) (sym (release_idle d e))
        (omega arith)
    at (Some op) e = subst (λ (x : Delivery). x.released + x.dropped ≤ d.released + d.dropped + 1)
        (sym (release_found d op (delivery_refusal op d.log) e refl)) (taken_few op (delivery_refusal op d.log) d)

-- each step takes out one operation at most
pub steps_few : (n : ℕ) (d : Delivery) → (steps n d).released + (steps n d).dropped ≤ d.released + d.dropped + n
steps_few zero d = omega arith
steps_few (suc n) d = let one = release_few (steps n d) in let rest = steps_few n d in omega arith

-- one more step
pub step_more : (n : ℕ) (u d new : Delivery) → d ≡ steps n u → new ≡ release d → new ≡ steps (n + 1) u
step_more n u d new at step = let one : suc n ≡ n + 1 = omega arith in step ∙ ap release at
    ∙ ap (λ (m : ℕ). steps m u) one

-- a number of steps take out at most that many operations
pub few_at : (n : ℕ) (u d : Delivery) → d ≡ steps n u → d.released + d.dropped ≤ u.released + u.dropped + n
few_at n u d at = subst (λ (x : Delivery). x.released + x.dropped ≤ u.released + u.dropped + n) (sym at) (steps_few n u)

-- a release that has stopped is settled
pub settled_idle : (n : ℕ) (u d new : Delivery) → d ≡ steps n u → find (is_ready (vector_of d.log)) d.held ≡ None →
    new ≡ release d → n ≤ length u.held → new ≡ settle u
settled_idle n u d new at none step most =
    let still : release d ≡ d = release_idle d none in
    let there : release (steps n u) ≡ steps n u = subst (λ x. release x ≡ x) at still in
    let count : length u.held - n + n ≡ length u.held = omega arith in
    step ∙ still ∙ at ∙ sym (steps_idle n (length u.held - n) u there) ∙ ap (λ (m : ℕ). steps m u) count

-- so is one of as many steps as were held
pub settled_all : (n : ℕ) (u d : Delivery) → d ≡ steps n u → n ≡ length u.held → d ≡ settle u
settled_all n u d at all = at ∙ ap (λ (m : ℕ). steps m u) all
