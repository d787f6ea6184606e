-- Stretches of a log: what is read of them, how many of their operations pass a test, and what a search finds from there on.
use Rattle.std.proofs.Common.{◌≡◌, ℕ, zero, suc, ◌+◌, ◌-◌, ◌≤◌, ◌<◌, min, Bool, true, false, ◌&&◌, List, [], ◌∷◌, ◌++◌, length}
use Rattle.std.proofs.Common.{take, drop, get_or, slice_get, filter, count_by, Option, Some, None, option_map, if◌then◌else◌, refl, sym, ap, ◌∙◌}
use Rattle.std.proofs.Common.{arith, ltb, leb, eqb, append_assoc, length-drop}
use Rattle.std.specs.List.{AllWithin}
use Rattle.std.specs.List.Sorted.{IsPartitionedBy}
use Rattle.std.proofs.lemmas.Bool.{ltb-true, ltb-false, leb-true, lt-ltb, le-ltb, lt-leb, le-leb}
use Rattle.std.proofs.lemmas.List.{take_all}
use Rattle.std.proofs.lemmas.List.Sums.{length-filter}
use Rattle.std.specs.List.{AllByRecursion}
use Rattle.pad_model.specs.OldWire.{op_in_v1}
use Rattle.pad_model.specs.declared.op.Op.{Op}
use Rattle.pad_model.proofs.Newer.{split}
use Rattle.pad_model.proofs.Each.{each-imply}
use Rattle.op_log.specs.Log.{is_unsayable}
use Rattle.op_log.specs.Index.{first_place, places_of}
use Rattle.op_log.proofs.Marks.{each_at}
use Rattle.op_log.proofs.Places.{picked, picked_all, picked_none}
use Rattle.op_log.proofs.Next.{found_first, found_within, first_found}

-- ---- places
-- one more operation
pub places_push : (test : Op → Bool) (p place : ℕ) (ops : List Op) (op : Op) → place ≡ p + length ops →
    places_of test p (ops ++ op ∷ [])
    ≡ (if test op then places_of test p ops ++ place ∷ [] else places_of test p ops)
places_push test p place [] op at =
    let here : p ≡ place = omega arith in
    split (test op) (λ e. rw (e, here) refl) (λ e. rw e refl)
places_push test p place (x ∷ ops) op at =
    let rest = places_push test (p + 1) place ops op (omega arith) in
    split (test x)
    (λ e. rw (e, rest) (split (test op) (λ f. rw f refl) (λ f. rw f refl)))
    (λ e. rw (e, rest) refl)

-- places are not below where the log begins
places_behind : (test : Op → Bool) (p : ℕ) (ops : List Op) → AllByRecursion (λ q. p ≤ q) (places_of test p ops)
places_behind test p [] = tt
places_behind test p (op ∷ ops) =
    let rest = each-imply (λ q. p + 1 ≤ q) (λ q. p ≤ q) (λ q le. omega arith) (places_of test (p + 1) ops)
    (places_behind test (p + 1) ops) in
    split (test op) (λ e. rw e (omega arith, rest)) (λ e. rw e rest)

-- and do not fall
abbrev pub Rises : List ℕ → Type 0
Rises [] = Unit {0}
Rises (q ∷ qs) = AllByRecursion (λ later. q ≤ later) qs × Rises qs

pub places_rise : (test : Op → Bool) (p : ℕ) (ops : List Op) → Rises (places_of test p ops)
places_rise test p [] = tt
places_rise test p (op ∷ ops) =
    let rest = each-imply (λ q. p + 1 ≤ q) (λ q. p ≤ q) (λ q le. omega arith) (places_of test (p + 1) ops)
    (places_behind test (p + 1) ops) in
    split (test op) (λ e. rw e (rest, places_rise test (p + 1) ops)) (λ e. rw e (places_rise test (p + 1) ops))

rises_at : (qs : List ℕ) (i j d : ℕ) → Rises qs → i ≤ j → j < length qs → get_or qs i d ≤ get_or qs j d
rises_at [] i j d r le lt = absurd (omega arith)
rises_at (q ∷ qs) zero zero d r le lt = omega arith
rises_at (q ∷ qs) zero (suc j) d r le lt = each_at (λ later. q ≤ later) qs j d r.0 (omega arith)
rises_at (q ∷ qs) (suc i) zero d r le lt = absurd (omega arith)
rises_at (q ∷ qs) (suc i) (suc j) d r le lt = rises_at qs i j d r.1 (omega arith) (omega arith)

pub partitioned_below : (qs : List ℕ) (end : ℕ) → Rises qs → IsPartitionedBy (λ q. ltb q end) qs
partitioned_below qs end r i j d le lt e =
    let b = rises_at qs i j d r le lt in lt-ltb _ _ (omega (arith, b, ltb-true _ _ e))

-- where a partition lies, so many pass
count_passed : (passed : ℕ → Bool) (qs : List ℕ) (start : ℕ) → start ≤ length qs →
    AllWithin (λ q. passed q ≡ true) qs 0 start → AllWithin (λ q. passed q ≡ false) qs start (length qs) →
    start ≡ length (filter passed qs)
count_passed passed [] start le before behind = omega arith
count_passed passed (q ∷ qs) zero le before behind =
    rw (behind 0 q (omega arith) (omega arith)) (count_passed passed qs zero (omega arith)
    (λ k d a b. absurd (omega arith)) (λ k d a b. behind (suc k) d (omega arith) (omega arith)))
count_passed passed (q ∷ qs) (suc s) le before behind =
    rw (before 0 q (omega arith) (omega arith)) (ap suc (count_passed passed qs s (omega arith)
    (λ k d a b. before (suc k) d (omega arith) (omega arith)) (λ k d a b. behind (suc k) d (omega arith) (omega arith))))

-- places behind an end do not pass
none_below : (qs : List ℕ) (end : ℕ) → AllByRecursion (λ q. end ≤ q) qs → filter (λ q. ltb q end) qs ≡ []
none_below [] end each = refl
none_below (q ∷ qs) end each = rw (le-ltb q end each.0) (none_below qs end each.1)

-- so many places are below an end as operations pass in front of it
places_below : (test : Op → Bool) (p n : ℕ) (ops : List Op) → length (filter (λ q. ltb q (p + n)) (places_of test p ops))
    ≡ length (filter test (take n ops))
places_below test p n [] = split (ltb 0 n) (λ e. take_nothing n) (λ e. take_nothing n)
  where
    take_nothing : (n : ℕ) → 0 ≡ length (filter test (take n []))
    take_nothing zero = refl
    take_nothing (suc n) = refl
places_below test p zero (op ∷ ops) =
    ap length (none_below (places_of test p (op ∷ ops)) (p + 0) (each-imply (λ q. p ≤ q) (λ q. p + 0 ≤ q)
    (λ q le. omega arith) (places_of test p (op ∷ ops)) (places_behind test p (op ∷ ops))))
places_below test p (suc n) (op ∷ ops) =
    let moved : p + suc n ≡ p + 1 + n = omega arith in
    let rest = ap (λ (e : ℕ). length (filter (λ q. ltb q e) (places_of test (p + 1) ops))) moved
    ∙ places_below test (p + 1) n ops in
    split (test op)
    (λ e. rw (e, lt-ltb p (p + suc n) (omega arith)) (ap suc rest))
    (λ e. rw e rest)

pub count_below : (test : Op → Bool) (end start : ℕ) (ops : List Op) (places : List ℕ) → places ≡ places_of test 0 ops →
    start ≤ length places → AllWithin (λ q. ltb q end ≡ true) places 0 start →
    AllWithin (λ q. ltb q end ≡ false) places start (length places) → start ≡ count_by test (take end ops)
count_below test end start ops places is le before behind =
    let moved : end ≡ 0 + end = omega arith in
    count_passed (λ q. ltb q end) places start le before behind
    ∙ ap (λ (qs : List ℕ). length (filter (λ q. ltb q end) qs)) is
    ∙ ap (λ (e : ℕ). length (filter (λ q. ltb q e) (places_of test 0 ops))) moved
    ∙ places_below test 0 end ops ∙ length-filter test (take end ops)

-- how many pass in a stretch
between : (test : Op → Bool) (start end : ℕ) (ops : List Op) → length (filter test (take end ops))
    - length (filter test (take start ops)) ≡ length (filter test (take (end - start) (drop start ops)))
between test zero end ops =
    let whole : end ≡ end - 0 = omega arith in
    ap (λ (n : ℕ). n - 0) (ap (λ (e : ℕ). length (filter test (take e ops))) whole) ∙ minus_nothing _
  where
    minus_nothing : (n : ℕ) → n - 0 ≡ n
    minus_nothing n = omega arith
between test (suc s) zero ops =
    let none : 0 - suc s ≡ 0 = omega arith in
    let low : 0 - length (filter test (take (suc s) ops)) ≡ 0 = omega arith in
    rw none low
between test (suc s) (suc e) [] = nothing (suc e - suc s)
  where
    nothing : (n : ℕ) → 0 - 0 ≡ length (filter test (take n []))
    nothing zero = refl
    nothing (suc n) = refl
between test (suc s) (suc e) (op ∷ ops) =
    let rest = between test s e ops in
    let less : suc e - suc s ≡ e - s = omega arith in
    rw less (split (test op)
    (λ t. rw t (less_one (length (filter test (take e ops))) (length (filter test (take s ops))) ∙ rest))
    (λ t. rw t rest))
  where
    less_one : (m n : ℕ) → suc m - suc n ≡ m - n
    less_one m n = omega arith

pub count_stretch : (test : Op → Bool) (start end before upto : ℕ) (ops : List Op) → before ≡ count_by test (take start ops)
    → upto ≡ count_by test (take end ops) → upto - before ≡ count_by test (take (end - start) (drop start ops))
count_stretch test start end before upto ops is js =
    rw (is, js, ← length-filter test (take start ops), ← length-filter test (take end ops))
    (between test start end ops ∙ length-filter test (take (end - start) (drop start ops)))

-- ---- a stretch that is asked for, as far as the log goes
pub stretch : (ops : List Op) (start count most end : ℕ) → length ops ≤ most →
    end ≡ min (length ops) (min (start + count) most) → take (end - start) (drop start ops) ≡ take count (drop start ops)
stretch ops start count most end fits is =
    split (leb (start + count) (length ops))
    (λ e. let low = leb-true (start + count) (length ops) e in
    ap (λ (n : ℕ). take n (drop start ops)) (let same : end - start ≡ count = omega arith in same))
    (λ e. let high : length ops < start + count = over (start + count) (length ops) e in
    let long = length-drop start ops in
    take_all (end - start) (drop start ops) (omega arith)
    ∙ sym (take_all count (drop start ops) (omega arith)))
  where
    over : (m n : ℕ) → leb m n ≡ false → n < m
    over m n e = split (ltb n m) (λ t. ltb-true n m t)
        (λ t. let le = ltb-false n m t in absurd (let no : true ≡ false = sym (le-leb m n le) ∙ e in cc))

-- one more operation of a stretch
pub stretch_more : (ops : List Op) (start place : ℕ) (op : Op) → start ≤ place → slice_get ops place ≡ Some op →
    take (place + 1 - start) (drop start ops) ≡ take (place - start) (drop start ops) ++ op ∷ []
stretch_more [] start place op le there = absurd (cc)
stretch_more (x ∷ ops) zero zero op le there = let same : x ≡ op = cc in ap (λ (o : Op). o ∷ []) same
stretch_more (x ∷ ops) zero (suc place) op le there =
    let same : suc place + 1 - 0 ≡ suc (place + 1 - 0) = omega arith in
    let less : suc place - 0 ≡ suc (place - 0) = omega arith in
    rw (same, less) (ap (λ (os : List Op). x ∷ os) (stretch_more ops zero place op (omega arith) there))
stretch_more (x ∷ ops) (suc start) zero op le there = absurd (omega arith)
stretch_more (x ∷ ops) (suc start) (suc place) op le there =
    let same : suc place + 1 - suc start ≡ place + 1 - start = omega arith in
    let less : suc place - suc start ≡ place - start = omega arith in
    rw (same, less) (stretch_more ops start place op (omega arith) there)

-- nothing is behind the end
past_end : {A : Type 0} (xs : List A) (k : ℕ) → slice_get xs k ≡ None → length xs ≤ k
past_end [] k e = omega arith
past_end (x ∷ xs) zero e = absurd (cc)
past_end (x ∷ xs) (suc k) e = omega (arith, past_end xs k e)

-- ---- what a search finds
picked_drop : (f : Op → Bool) (from p : ℕ) (ops : List Op) → p ≤ from → picked f from p ops ≡ filter f (drop (from - p) ops)
picked_drop f from p [] le = ap (filter f) (nothing (from - p))
  where
    nothing : (n : ℕ) → (let none : List Op = [] in none) ≡ drop n []
    nothing zero = refl
    nothing (suc n) = refl
picked_drop f from p (op ∷ ops) le =
    split (ltb p from)
    (λ e. let lt = ltb-true p from e in
    let less : from - p ≡ suc (from - (p + 1)) = omega arith in
    rw (lt-leb from p lt, less) (picked_drop f from (p + 1) ops (omega arith)))
    (λ e. let same : from - p ≡ 0 = omega (arith, ltb-false p from e) in
    rw same (picked_all f from p (op ∷ ops) (omega (arith, ltb-false p from e))))

from_place : (f : Op → Bool) (from : ℕ) (ops : List Op) → picked f from 0 ops ≡ filter f (drop from ops)
from_place f from ops =
    let all : from - 0 ≡ from = omega arith in
    picked_drop f from 0 ops (omega arith) ∙ ap (λ (n : ℕ). filter f (drop n ops)) all

pub next_found : (f : Op → Bool) (from k : ℕ) (ops : List Op) (op : Op) →
    first_place (λ place op. leb from place && f op) 0 ops ≡ Some k → slice_get ops k ≡ Some op →
    filter f (drop from ops) ≡ op ∷ filter f (drop (k + 1) ops)
next_found f from k ops op found there =
    sym (from_place f from ops) ∙ found_first f from k ops op found
    ∙ ap (λ (o : Op). o ∷ picked f (k + 1) 0 ops) (got ops k op there)
    ∙ ap (λ (os : List Op). op ∷ os) (from_place f (k + 1) ops)
  where
    got : (ops : List Op) (k : ℕ) (op : Op) → slice_get ops k ≡ Some op → get_or ops k op ≡ op
    got [] k op there = refl
    got (x ∷ ops) zero op there = cc
    got (x ∷ ops) (suc k) op there = got ops k op there

pub next_none : (f : Op → Bool) (from : ℕ) (ops : List Op) → first_place (λ place op. leb from place && f op) 0 ops ≡ None →
    filter f (drop from ops) ≡ []
next_none f from ops none = sym (from_place f from ops) ∙ picked_none f from 0 ops none

-- a place that was found has an operation
pub found_there : (f : Op → Bool) (from k : ℕ) (ops : List Op) → first_place (λ place op. leb from place && f op) 0 ops
    ≡ Some k → slice_get ops k ≡ None → ⊥
found_there f from k ops found none =
    let within = found_within f from k ops found in omega (arith, past_end ops k none)

-- ---- whether one operation passes
pub one_sayable : (ops : List Op) (place most end : ℕ) (op : Op) → slice_get ops place ≡ Some op → length ops ≤ most →
    end ≡ min (length ops) (min (place + 1) most) →
    eqb (count_by is_unsayable (take (end - place) (drop place ops))) 0 ≡ op_in_v1 op
one_sayable ops place most end op there fits is =
    ap (λ (os : List Op). eqb (count_by is_unsayable os) 0) (stretch ops place 1 most end fits is ∙ alone ops place op there)
    ∙ counted op
  where
    alone : (ops : List Op) (place : ℕ) (op : Op) → slice_get ops place ≡ Some op → take 1 (drop place ops) ≡ op ∷ []
    alone [] place op there = absurd (cc)
    alone (x ∷ ops) zero op there = let same : x ≡ op = cc in ap (λ (o : Op). o ∷ []) same
    alone (x ∷ ops) (suc place) op there = alone ops place op there

    counted : (op : Op) → eqb (count_by is_unsayable (op ∷ [])) 0 ≡ op_in_v1 op
    counted op = split (op_in_v1 op) (λ e. rw e refl) (λ e. rw e refl)

-- what is said of the operation at the place that was found is said of the first that passes
pub first_says : (f g : Op → Bool) (k : ℕ) (ops : List Op) (b : Bool) →
    first_place (λ place op. leb 0 place && f op) 0 ops ≡ Some k → ((op : Op) → slice_get ops k ≡ Some op → b ≡ g op) →
    Some b ≡ option_map g (slice_get (filter f ops) 0)
first_says f g k ops b found says =
    by_case (slice_get ops k) refl ∙ ap (option_map g) (first_found f k ops found)
  where
    by_case : (o : Option Op) → slice_get ops k ≡ o → Some b ≡ option_map g (slice_get ops k)
    by_case None is = absurd (found_there f 0 k ops found is)
    by_case (Some op) is = ap (λ (x : Bool). Some x) (says op is) ∙ ap (option_map g) (sym is)

-- one more of those that are missing
pub taken_more : (answer new ys rest all : List Op) (x : Op) (most n : ℕ) → n < most → ys ≡ x ∷ rest →
    new ≡ answer ++ x ∷ [] → answer ++ take (most - n) ys ≡ all → new ++ take (most - (n + 1)) rest ≡ all
taken_more answer new ys rest all x most n lt is added now =
    let one : most - n ≡ suc (most - (n + 1)) = omega arith in
    ap (λ (os : List Op). os ++ take (most - (n + 1)) rest) added
    ∙ append_assoc answer (x ∷ []) (take (most - (n + 1)) rest)
    ∙ ap (λ (m : ℕ). answer ++ take m (x ∷ rest)) (sym one)
    ∙ ap (λ (os : List Op). answer ++ take (most - n) os) (sym is) ∙ now

-- where an operation is shown to be ready it is
pub ready_is : (room : Bool) (ready : Option Op) (op : Op) → (if room then ready else None) ≡ Some op → ready ≡ Some op
ready_is true ready op is = is
ready_is false ready op is = absurd (cc)
