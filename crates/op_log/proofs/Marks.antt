-- Marks rise, and a search may begin behind those that cannot be meant.
use Rattle.std.proofs.Common.{◌≡◌, ℕ, zero, suc, inl, inr, ◌+◌, ◌≤◌, ◌<◌, Bool, true, false, ◌&&◌, ◌||◌, List, []}
use Rattle.std.proofs.Common.{◌∷◌, ◌++◌, length, get_or, slice_get, drop, Some, refl, sym, ap, ◌∙◌, arith, eqb, ltb, leb}
use Rattle.std.specs.List.{AllByRecursion, AllWithin, find}
use Rattle.std.proofs.Math.Bool.{and_assoc}
use Rattle.std.specs.List.Sorted.{IsPartitionedBy}
use Rattle.std.proofs.lemmas.Bool.{ltb-true, leb-true, lt-ltb, le-ltb, le-leb, lt-leb, ne_eqb, or_cases}
use Rattle.std.proofs.lemmas.Bool.{or_left, or_right, and_parts, and_left, and_right, cond-false}
use Rattle.pad_model.specs.declared.op.Op.{Op}
use Rattle.pad_model.proofs.Newer.{split}
use Rattle.pad_model.proofs.Each.{each-imply}
use Rattle.op_log.specs.declared.track.Mark.{Mark}
use Rattle.op_log.specs.Log.{is_of}
use Rattle.op_log.specs.Track.{marks_from, IsBefore, IsRising, is_above, last_number, rises_from}

-- where numbers do not fall, no mark is below where the log begins
marks_behind : (o p h : ℕ) (ops : List Op) → rises_from h (marks_from o p ops) ≡ true →
    AllByRecursion (λ m. (p ≤ m.place) × (h ≤ m.number)) (marks_from o p ops)
marks_behind o p h [] r = tt
marks_behind o p h (op ∷ ops) r =
    let n = op.name.number in
    split (is_of o op)
    (λ e. let on : (leb h n && rises_from n (marks_from o (p + 1) ops)) ≡ true = rw e at r in
    let parts = and_parts (leb h n) (rises_from n (marks_from o (p + 1) ops)) on in
    let low = leb-true h n parts.0 in
    rw e (
      (omega arith, low),
      each-imply (λ m. (p + 1 ≤ m.place) × (n ≤ m.number)) (λ m. (p ≤ m.place) × (h ≤ m.number))
          (λ m k. (omega arith, omega (arith, k.1, low))) _ (marks_behind o (p + 1) n ops parts.1),
    ))
    (λ e. rw e (each-imply (λ m. (p + 1 ≤ m.place) × (h ≤ m.number)) (λ m. (p ≤ m.place) × (h ≤ m.number))
    (λ m k. (omega arith, k.1)) _ (marks_behind o (p + 1) h ops (rw e at r))))

pub marks_rise : (o p h : ℕ) (ops : List Op) → rises_from h (marks_from o p ops) ≡ true → IsRising (marks_from o p ops)
marks_rise o p h [] r = tt
marks_rise o p h (op ∷ ops) r =
    let n = op.name.number in
    split (is_of o op)
    (λ e. let on : (leb h n && rises_from n (marks_from o (p + 1) ops)) ≡ true = rw e at r in
    let parts = and_parts (leb h n) (rises_from n (marks_from o (p + 1) ops)) on in
    rw e (
      each-imply (λ m. (p + 1 ≤ m.place) × (n ≤ m.number)) (λ m. (p ≤ m.place) × (n ≤ m.number))
          (λ m k. (omega arith, k.1)) _ (marks_behind o (p + 1) n ops parts.1),
      marks_rise o (p + 1) n ops parts.1,
    ))
    (λ e. rw e (marks_rise o (p + 1) h ops (rw e at r)))

pub each_at : {A : Type 0} (P : A → Type 0) (xs : List A) (k : ℕ) (d : A) → AllByRecursion P xs → k < length xs →
    P (get_or xs k d)
each_at P [] k d h lt = absurd (omega arith)
each_at P (x ∷ xs) zero d h lt = h.0
each_at P (x ∷ xs) (suc k) d h lt = each_at P xs k d h.1 (omega arith)

-- of two marks the later one does not fall
rising_at : (ms : List Mark) (i j : ℕ) (d : Mark) → IsRising ms → i ≤ j → j < length ms →
    IsBefore (get_or ms i d) (get_or ms j d)
rising_at [] i j d r le lt = absurd (omega arith)
rising_at (m ∷ ms) zero zero d r le lt = (omega arith, omega arith)
rising_at (m ∷ ms) zero (suc j) d r le lt = each_at (IsBefore m) ms j d r.0 (omega arith)
rising_at (m ∷ ms) (suc i) zero d r le lt = absurd (omega arith)
rising_at (m ∷ ms) (suc i) (suc j) d r le lt = rising_at ms i j d r.1 (omega arith) (omega arith)

-- the marks that are too early or too low stand before the others
before_passes : (a b : Mark) (from count : ℕ) → IsBefore a b → (ltb b.place from || leb b.number count) ≡ true →
    (ltb a.place from || leb a.number count) ≡ true
before_passes a b from count before e =
    let case = or_cases (ltb b.place from) (leb b.number count) e in
    elim case [
      | inl early ↦ or_left (ltb a.place from) (leb a.number count)
          (lt-ltb a.place from (omega (arith, before.0, ltb-true b.place from early)))
      | inr low ↦ or_right (ltb a.place from) (leb a.number count)
          (le-leb a.number count (omega (arith, before.1, leb-true b.number count low)))
    ]

pub partitioned_above : (ms : List Mark) (from count : ℕ) → IsRising ms →
    IsPartitionedBy (λ m. ltb m.place from || leb m.number count) ms
partitioned_above ms from count r i j d le lt e =
    let b = rising_at ms i j d r le lt in
    before_passes (get_or ms i d) (get_or ms j d) from count b e

pub partitioned_low : (ms : List Mark) (number : ℕ) → IsRising ms → IsPartitionedBy (λ m. ltb m.number number) ms
partitioned_low ms number r i j d le lt e =
    let b = rising_at ms i j d r le lt in lt-ltb _ _ (omega (arith, b.1, ltb-true _ _ e))

-- what a search finds, it finds behind the marks that are passed over
pub find_behind : (passed test : Mark → Bool) → ((m : Mark) → passed m ≡ true → test m ≡ false) → (ms : List Mark)
    (start : ℕ) → start ≤ length ms → AllWithin (λ m. passed m ≡ true) ms 0 start →
    find test ms ≡ find test (drop start ms)
find_behind passed test f ms zero le before = refl
find_behind passed test f [] (suc s) le before = refl
find_behind passed test f (m ∷ ms) (suc s) le before =
    cond-false _ _ _ (f m (before 0 m (omega arith) (omega arith)))
    ∙ find_behind passed test f ms s (omega arith) (λ k d a b. before (suc k) d (omega arith) (omega arith))

-- a mark that is passed over is not above
pub passed_above : (from count : ℕ) (m : Mark) → (ltb m.place from || leb m.number count) ≡ true →
    is_above from count m ≡ false
passed_above from count m e =
    let case = or_cases (ltb m.place from) (leb m.number count) e in
    elim case [
      | inl early ↦ and_left (leb from m.place) (ltb count m.number) (lt-leb from m.place (ltb-true m.place from early))
      | inr low ↦ and_right (leb from m.place) (ltb count m.number)
          (le-ltb count m.number (leb-true m.number count low))
    ]

-- the same for a number that is looked for
pub passed_numbered : (number : ℕ) (m : Mark) → ltb m.number number ≡ true → eqb m.number number ≡ false
passed_numbered number m e = ne_eqb m.number number (λ same. omega (arith, ltb-true m.number number e))

-- the last mark has the last number
pub last_is : (ms : List Mark) (k h : ℕ) (m : Mark) → k + 1 ≡ length ms → slice_get ms k ≡ Some m →
    last_number h ms ≡ m.number
last_is [] k h m e is = absurd (omega arith)
last_is (x ∷ []) zero h m e is = cc
last_is (x ∷ y ∷ ms) zero h m e is = absurd (omega arith)
last_is (x ∷ ms) (suc k) h m e is = last_is ms k x.number m (omega arith) is

-- numbers rise with one more mark if it is not below the last
pub rises_push : (h : ℕ) (ms : List Mark) (m : Mark) → rises_from h (ms ++ m ∷ [])
    ≡ (rises_from h ms && leb (last_number h ms) m.number)
rises_push h [] m = and_true (leb h m.number)
  where
    and_true : (b : Bool) → (b && true) ≡ b
    and_true true = refl
    and_true false = refl
rises_push h (x ∷ ms) m =
    ap (λ b. leb h x.number && b) (rises_push x.number ms m)
    ∙ sym (and_assoc (leb h x.number) (rises_from x.number ms) (leb (last_number x.number ms) m.number))

pub some_behind : (ms : List Mark) (k : ℕ) (m : Mark) → slice_get ms k ≡ Some m → k < length ms
some_behind [] k m e = cc
some_behind (x ∷ ms) zero m e = omega arith
some_behind (x ∷ ms) (suc k) m e = omega (arith, some_behind ms k m e)
