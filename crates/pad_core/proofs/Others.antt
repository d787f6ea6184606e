-- What an operation made here has seen of the other origins.
use Rattle.std.proofs.Common.{◌≡◌, ℕ, zero, suc, ◌+◌, ◌≤◌, ◌<◌, Bool, true, false, not, ◌&&◌, cond, eqb, leb, ltb, List}
use Rattle.std.proofs.Common.{[], ◌∷◌, ◌++◌, length, fold, refl, sym, ap, ap₂, ◌∙◌, subst, arith, eqb-true, le-leb}
use Rattle.std.proofs.Common.{leb-true, ne_eqb, ltb-false, eq-eqb}
use Rattle.std.proofs.lemmas.Bool.{and_from, and_parts, false≢true, eqb-false}
use Rattle.std.specs.List.{AllByRecursion}
use Rattle.pad_model.specs.Checked.{is_checked, is_within, is_seen}
use Rattle.pad_model.specs.History.{IsHistory, Continues}
use Rattle.pad_model.specs.Seen.{IsVector, count_in, with_first, with_count}
use Rattle.pad_model.specs.declared.limits.TheConstants.{MAX_NUMBER}
use Rattle.pad_model.specs.declared.op.Op.{Op}
use Rattle.pad_model.specs.declared.op.Part.{Part}
use Rattle.pad_model.specs.declared.seen.Counted.{Counted}
use Rattle.pad_model.proofs.Each.{each-imply, each-both}
use Rattle.pad_model.proofs.Local.{all_pass}
use Rattle.pad_model.proofs.Newer.{split}
use Rattle.holdback.specs.Held.{is_ready, reaches}
use Rattle.pad_core.specs.Counts.{counted, op_of, vector_of}
use Rattle.pad_core.proofs.Counted.{IsVector-vector_of}

-- what is not 0 is 1 or more
pub not_zero : (n : ℕ) → eqb n 0 ≡ false → 1 ≤ n
not_zero zero e = absurd (Rattle.std.proofs.lemmas.Bool.true≢false e)
not_zero (suc n) e = omega arith

each-first : (P : Counted → Type 0) (o n : ℕ) (v : List Counted) → AllByRecursion P v →
    (1 ≤ n → P (record { origin = o; count = n })) → AllByRecursion P (with_first o n v)
each-first P o n v h p = split (eqb n 0) (λ e. rw e h) (λ e. rw e (p (not_zero n e), h))

each-rest : (P : Counted → Type 0) (b : Bool) (pair : Counted) (v : List Counted) → P pair → AllByRecursion P v →
    AllByRecursion P (cond b v (pair ∷ v))
each-rest P true pair v p h = h
each-rest P false pair v p h = (p, h)

-- a new count keeps what holds of each pair
each-with_count : (P : Counted → Type 0) (v : List Counted) (o n : ℕ) → AllByRecursion P v →
    (1 ≤ n → P (record { origin = o; count = n })) → AllByRecursion P (with_count v o n)
each-with_count P [] o n h p = each-first P o n [] tt p
each-with_count P (pair ∷ v) o n h p =
    split (ltb pair.origin o)
    (λ e. rw e (h.0, each-with_count P v o n h.1 p))
    (λ e. rw e (each-first P o n (cond (eqb pair.origin o) v (pair ∷ v))
    (each-rest P (eqb pair.origin o) pair v h.0 h.1) p))

-- an operation has an origin and a number
abbrev pub IsNamed : Op → Type 0
IsNamed op = (1 ≤ op.name.origin) × (1 ≤ op.name.number)

named_from : (before log : List Op) → Continues before log → AllByRecursion IsNamed log
named_from before [] h = tt
named_from before (op ∷ log) h =
    let checked : is_checked op ≡ true = h.0 in
    let head = and_parts _ _ (and_parts _ _ (and_parts _ _ checked).0).0 in
    let origin = and_parts _ _ head.0 in
    let number = and_parts _ _ head.1 in
    ((leb-true 1 op.name.origin origin.1, leb-true 1 op.name.number number.0), named_from (before ++ op ∷ []) log h.2)

-- each operation of a history has
pub each_named : (log : List Op) → IsHistory log → AllByRecursion IsNamed log
each_named log h = named_from [] log h

-- a pair of an origin that may be, with a count that is not above this one
abbrev pub IsWithin : ℕ → Counted → Type 0
IsWithin most pair = (1 ≤ pair.origin) × (1 ≤ pair.count) × (pair.count ≤ most)

-- no count is above the bound of all pairs
count_low : (v : List Counted) (most o : ℕ) → AllByRecursion (IsWithin most) v → count_in v o ≤ most
count_low [] most o h = omega arith
count_low (pair ∷ v) most o h = split (eqb pair.origin o) (λ e. rw e h.0.2) (λ e. rw e (count_low v most o h.1))

wider : (most : ℕ) (pair : Counted) → IsWithin most pair → IsWithin (most + 1) pair
wider most pair h = let low : pair.count ≤ most = h.2 in (h.0, h.1, omega arith)

-- one more operation raises that bound by one
each-counted : (v : List Counted) (log : List Op) (most all : ℕ) → AllByRecursion (IsWithin most) v →
    AllByRecursion IsNamed log → most + length log ≡ all → AllByRecursion (IsWithin all) (fold counted v log)
each-counted v [] most all h named is = subst (λ n. AllByRecursion (IsWithin n) v)
    (let same : most ≡ all = omega arith in same) h
each-counted v (op ∷ log) most all h named is =
    let o = op.name.origin in
    let low : count_in v o ≤ most = count_low v most o h in
    let here : IsWithin (most + 1) (record { origin = o; count = count_in v o + 1 }) =
    (named.0.0, omega arith, omega arith) in
    each-counted (counted v op) log (most + 1) all
    (each-with_count (IsWithin (most + 1)) v o (count_in v o + 1) (each-imply (IsWithin most) (IsWithin (most + 1))
    (wider most) v h) (λ some. here))
    named.1 (let longer : most + length (op ∷ log) ≡ all = is in omega arith)

-- the pairs of a history's vector
pairs_within : (log : List Op) → IsHistory log → AllByRecursion (IsWithin (length log)) (vector_of log)
pairs_within log h = each-counted [] log 0 (length log) tt (each_named log h) (omega arith)

-- a count of 0 takes the origin out
taken_out : (v : List Counted) (own : ℕ) → IsVector v → AllByRecursion (λ pair. eqb pair.origin own ≡ false)
    (with_count v own 0)
taken_out [] own h = tt
taken_out (pair ∷ v) own h =
    split (ltb pair.origin own)
    (λ e. let below : pair.origin < own = Rattle.std.proofs.Common.ltb-true pair.origin own e in
    rw e (ne_eqb pair.origin own (omega arith), taken_out v own h.2))
    (λ e. let above : own ≤ pair.origin = ltb-false pair.origin own e in rw e (rest (eqb pair.origin own) refl above))
  where
    later : (own ≤ pair.origin) → AllByRecursion (λ pair. eqb pair.origin own ≡ false) v
    later above = each-imply (λ one. pair.origin < one.origin) (λ one. eqb one.origin own ≡ false)
        (λ one l. ne_eqb one.origin own (omega arith)) v h.1

    rest : (b : Bool) → b ≡ eqb pair.origin own → (own ≤ pair.origin) →
        AllByRecursion (λ pair. eqb pair.origin own ≡ false) (cond b v (pair ∷ v))
    rest true is above = later above
    rest false is above = (sym is, later above)

-- each of its own counts is reached
reached_itself : (v : List Counted) → IsVector v → AllByRecursion (λ pair. leb pair.count (count_in v pair.origin)
    ≡ true) v
reached_itself [] h = tt
reached_itself (pair ∷ v) h = (
  rw (eq-eqb pair.origin pair.origin refl) (le-leb pair.count pair.count (omega arith)),
  each-both (λ later. pair.origin < later.origin) (λ later. leb later.count (count_in v later.origin) ≡ true)
      (λ later. leb later.count (count_in (pair ∷ v) later.origin) ≡ true)
      (λ later l e. rw (ne_eqb pair.origin later.origin (omega arith)) e) v h.1 (reached_itself v h.2),
)

-- what is delivered of the other origins is reached
pub others_reached : (v : List Counted) (own : ℕ) → IsVector v → reaches v (with_count v own 0) ≡ true
others_reached v own h =
    all_pass (λ pair. leb pair.count (count_in v pair.origin)) (with_count v own 0)
    (each-with_count (λ pair. leb pair.count (count_in v pair.origin) ≡ true) v own 0 (reached_itself v h)
    (λ some. absurd (omega arith)))

-- an operation that is made here is ready at once
pub own_ready : (own : ℕ) (author : List ℕ) (parts : List Part) (log : List Op) →
    is_ready (vector_of log) (op_of own author parts log) ≡ true
own_ready own author parts log =
    let number = count_in (vector_of log) own + 1 in
    and_from (eqb number number) _ (eq-eqb number number refl)
    (others_reached (vector_of log) own (IsVector-vector_of log))

-- what is delivered of the other origins may be named by an operation of this one
pub others_checked : (log : List Op) (own : ℕ) → IsHistory log → length log ≤ MAX_NUMBER →
    is_seen own (with_count (vector_of log) own 0) ≡ true
others_checked log own h short =
    let pairs = with_count (vector_of log) own 0 in
    let within : AllByRecursion (IsWithin (length log)) pairs = each-with_count (IsWithin (length log))
    (vector_of log) own 0 (pairs_within log h) (λ some. absurd (omega arith)) in
    all_pass (λ pair. is_within pair.count MAX_NUMBER && leb 1 pair.origin && not (eqb pair.origin own)) pairs
    (each-both (IsWithin (length log)) (λ pair. eqb pair.origin own ≡ false)
    (λ pair. (is_within pair.count MAX_NUMBER && leb 1 pair.origin && not (eqb pair.origin own)) ≡ true)
    (λ pair w e. let low : pair.count ≤ length log = w.2 in
    and_from _ _ (and_from _ _ (and_from _ _ (le-leb 1 pair.count w.1) (le-leb pair.count MAX_NUMBER (omega arith)))
    (le-leb 1 pair.origin w.0)) (ap not e))
    pairs within (taken_out (vector_of log) own (IsVector-vector_of log)))
