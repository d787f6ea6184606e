-- Counts of a log's operations, and names that follow from them.
use Rattle.std.proofs.Common.{◌≡◌, ◌≢◌, ℕ, ◌+◌, ◌≤◌, ◌<◌, true, false, eqb, List, [], ◌∷◌, ◌++◌, length, fold, refl, sym}
use Rattle.std.proofs.Common.{leb, subst, arith, eqb-true, leb-true}
use Rattle.std.proofs.lemmas.Bool.{eqb-false, and_parts}
use Rattle.std.specs.List.{AllByRecursion, list_any}
use Rattle.pad_model.specs.Log.{same_name}
use Rattle.pad_model.specs.Seen.{IsVector, count_in}
use Rattle.pad_model.specs.declared.op.Op.{Op}
use Rattle.pad_model.specs.declared.op.OpName.{OpName}
use Rattle.pad_model.specs.declared.seen.Counted.{Counted}
use Rattle.pad_model.proofs.Newer.{split}
use Rattle.pad_model.proofs.SeenLemmas.{count_in-with_count, count_in-with_other, IsVector-with_count}
use Rattle.holdback.specs.Held.{is_ready, reaches}
use Rattle.pad_core.specs.Counts.{counted, vector_of, AreNumbered, AreTimely}

fold-push : (v : List Counted) (log : List Op) (op : Op) → fold counted v (log ++ op ∷ [])
    ≡ counted (fold counted v log) op
fold-push v [] op = refl
fold-push v (x ∷ log) op = fold-push (counted v x) log op

-- one more operation is counted
pub vector_of-push : (log : List Op) (op : Op) → vector_of (log ++ op ∷ []) ≡ counted (vector_of log) op
vector_of-push log op = fold-push [] log op

vector-fold : (v : List Counted) (log : List Op) → IsVector v → IsVector (fold counted v log)
vector-fold v [] h = h
vector-fold v (op ∷ log) h = vector-fold (counted v op) log
    (IsVector-with_count v op.name.origin (count_in v op.name.origin + 1) h)

-- the counts are a version vector
pub IsVector-vector_of : (log : List Op) → IsVector (vector_of log)
IsVector-vector_of log = vector-fold [] log tt

-- the count of its origin rises by one, and no other
pub count_in-counted : (v : List Counted) (op : Op) → IsVector v → count_in (counted v op) op.name.origin
    ≡ count_in v op.name.origin + 1
count_in-counted v op h = count_in-with_count v h op.name.origin (count_in v op.name.origin + 1)

pub count_in-other : (v : List Counted) (op : Op) (origin : ℕ) → origin ≢ op.name.origin →
    count_in (counted v op) origin ≡ count_in v origin
count_in-other v op origin differs = count_in-with_other v op.name.origin (count_in v op.name.origin + 1) origin differs

pub counted_most : (v : List Counted) (op : Op) (origin : ℕ) → IsVector v →
    (count_in (counted v op) origin ≤ count_in v origin + 1) × (count_in v origin ≤ count_in (counted v op) origin)
counted_most v op origin h =
    split (eqb origin op.name.origin)
    (λ e. let same : origin ≡ op.name.origin = eqb-true origin op.name.origin e in
    let more : count_in (counted v op) origin ≡ count_in v origin + 1 =
    subst (λ o. count_in (counted v op) o ≡ count_in v o + 1) (sym same) (count_in-counted v op h) in
    (omega arith, omega arith))
    (λ e. let other : count_in (counted v op) origin ≡ count_in v origin = count_in-other v op origin
    (λ same. eqb-false origin op.name.origin e same) in
    (omega arith, omega arith))

fold_most : (v : List Counted) (log : List Op) (origin : ℕ) → IsVector v →
    (count_in (fold counted v log) origin ≤ count_in v origin + length log)
    × (count_in v origin ≤ count_in (fold counted v log) origin)
fold_most v [] origin h = (omega arith, omega arith)
fold_most v (op ∷ log) origin h =
    let one = counted_most v op origin h in
    let rest = fold_most (counted v op) log origin (IsVector-with_count v op.name.origin (count_in v op.name.origin
    + 1) h) in
    let a = one.0 in let b = one.1 in let c = rest.0 in let d = rest.1 in
    (omega arith, omega arith)

-- no count falls along a log
pub counts_grow : (v : List Counted) (log : List Op) (origin : ℕ) → IsVector v →
    count_in v origin ≤ count_in (fold counted v log) origin
counts_grow v log origin h = (fold_most v log origin h).1

-- no count is above the number of operations
pub count_in-le-length : (log : List Op) (origin : ℕ) → count_in (vector_of log) origin ≤ length log
count_in-le-length log origin = let most : count_in (vector_of log) origin ≤ 0 + length log =
    (fold_most [] log origin tt).0 in omega arith

numbered-push : (v : List Counted) (log : List Op) (op : Op) → AreNumbered v log → op.name.number
    ≡ count_in (fold counted v log) op.name.origin + 1 → AreNumbered v (log ++ op ∷ [])
numbered-push v [] op n e = (e, tt)
numbered-push v (x ∷ log) op n e = (n.0, numbered-push (counted v x) log op n.1 e)

-- the next operation of an origin is numbered so
pub AreNumbered-push : (log : List Op) (op : Op) → AreNumbered [] log → op.name.number
    ≡ count_in (vector_of log) op.name.origin + 1 → AreNumbered [] (log ++ op ∷ [])
AreNumbered-push log op n e = numbered-push [] log op n e

-- an operation in the middle of a log is the next of its origin behind those before it
pub next_at : (v : List Counted) (log : List Op) (op : Op) (more : List Op) → AreNumbered v (log ++ op ∷ more) →
    op.name.number ≡ count_in (fold counted v log) op.name.origin + 1
next_at v [] op more n = n.0
next_at v (x ∷ log) op more n = next_at (counted v x) log op more n.1

-- and all that it had seen is there
pub reached_at : (v : List Counted) (log : List Op) (op : Op) (more : List Op) → AreTimely v (log ++ op ∷ more) →
    reaches (fold counted v log) op.seen ≡ true
reached_at v [] op more t = t.0
reached_at v (x ∷ log) op more t = reached_at (counted v x) log op more t.1

-- if counts are reached, each of them is
pub reached : (v counts : List Counted) (o : ℕ) → reaches v counts ≡ true → count_in counts o ≤ count_in v o
reached v [] o h = omega arith
reached v (pair ∷ counts) o h =
    let both = and_parts (leb pair.count (count_in v pair.origin)) (reaches v counts) h in
    split (eqb pair.origin o)
    (λ e. let low : pair.count ≤ count_in v o = subst (λ q. pair.count ≤ count_in v q) (eqb-true pair.origin o e)
    (leb-true pair.count (count_in v pair.origin) both.0) in rw e low)
    (λ e. rw e (reached v counts o both.1))

timely-push : (v : List Counted) (log : List Op) (op : Op) → AreTimely v log → reaches (fold counted v log) op.seen
    ≡ true → AreTimely v (log ++ op ∷ [])
timely-push v [] op t e = (e, tt)
timely-push v (x ∷ log) op t e = (t.0, timely-push (counted v x) log op t.1 e)

-- one more operation comes after all that it had seen
pub AreTimely-push : (log : List Op) (op : Op) → AreTimely [] log → reaches (vector_of log) op.seen ≡ true →
    AreTimely [] (log ++ op ∷ [])
AreTimely-push log op t e = timely-push [] log op t e

-- an operation that is ready is the next of its origin, and the counts that it had seen are reached
pub ready_is : (v : List Counted) (op : Op) → is_ready v op ≡ true → (op.name.number ≡ count_in v op.name.origin + 1)
    × (reaches v op.seen ≡ true)
ready_is v op ready =
    let both = and_parts (eqb op.name.number (count_in v op.name.origin + 1)) (reaches v op.seen) ready in
    (eqb-true op.name.number (count_in v op.name.origin + 1) both.0, both.1)

numbers_from : (v : List Counted) (log : List Op) → IsVector v → AreNumbered v log →
    AllByRecursion (λ op. op.name.number ≤ count_in (fold counted v log) op.name.origin) log
numbers_from v [] h n = tt
numbers_from v (op ∷ log) h n =
    let wide = IsVector-with_count v op.name.origin (count_in v op.name.origin + 1) h in
    let number : op.name.number ≡ count_in v op.name.origin + 1 = n.0 in
    let here : count_in (counted v op) op.name.origin ≡ count_in v op.name.origin + 1 = count_in-counted v op h in
    let later : count_in (counted v op) op.name.origin ≤ count_in (fold counted (counted v op) log) op.name.origin =
    (fold_most (counted v op) log op.name.origin wide).1 in
    (omega arith, numbers_from (counted v op) log wide n.1)

-- no operation has a number above the count of its origin
pub numbers_low : (log : List Op) → AreNumbered [] log →
    AllByRecursion (λ op. op.name.number ≤ count_in (vector_of log) op.name.origin) log
numbers_low log n = numbers_from [] log tt n

none_named : (v : List Counted) (log : List Op) (name : OpName) →
    AllByRecursion (λ op. op.name.number ≤ count_in v op.name.origin) log → count_in v name.origin < name.number →
    list_any (λ op. same_name op.name name) log ≡ false
none_named v [] name low above = refl
none_named v (op ∷ log) name low above =
    let rest = none_named v log name low.1 above in
    split (same_name op.name name)
    (λ e. let both = and_parts (eqb op.name.origin name.origin) (eqb op.name.number name.number) e in
    let origin : op.name.origin ≡ name.origin = eqb-true op.name.origin name.origin both.0 in
    let number : op.name.number ≡ name.number = eqb-true op.name.number name.number both.1 in
    let least : op.name.number ≤ count_in v name.origin = subst (λ o. op.name.number ≤ count_in v o) origin low.0 in
    absurd (omega arith))
    (λ e. rw e rest)

-- so a number above it is new
pub name_fresh : (log : List Op) (name : OpName) → AreNumbered [] log → count_in (vector_of log) name.origin
    < name.number → list_any (λ op. same_name op.name name) log ≡ false
name_fresh log name n above = none_named (vector_of log) log name (numbers_low log n) above
