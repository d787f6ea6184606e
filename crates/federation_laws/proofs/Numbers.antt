-- Numbers and names: a log has an operation for each number up to a count, and a name decides its operation.
use Rattle.std.proofs.Common.{◌≡◌, ℕ, ◌+◌, ◌≤◌, ◌<◌, inl, inr, ◌⊎◌, eqb, false, List, [], ◌∷◌, fold, refl, sym, ap, ◌∙◌}
use Rattle.std.proofs.Common.{subst, arith, eqb-true}
use Rattle.std.proofs.lemmas.Bool.{and_parts, cases_eq, eqb-false}
use Rattle.std.specs.List.{AllByRecursion, IsDistinct}
use Rattle.pad_model.specs.Seen.{IsVector, count_in}
use Rattle.pad_model.specs.declared.op.Op.{Op}
use Rattle.pad_model.specs.declared.seen.Counted.{Counted}
use Rattle.pad_model.proofs.Each.{each-imply}
use Rattle.pad_model.proofs.Newer.{split}
use Rattle.pad_model.proofs.SeenLemmas.{IsVector-with_count}
use Rattle.pad_model.proofs.Sets.{Has, Has-each}
use Rattle.pad_core.specs.Counts.{AreNumbered, counted, vector_of}
use Rattle.pad_core.proofs.Counted.{count_in-counted, count_in-other, counted_most, numbers_low}
use Rattle.federation_laws.specs.Holds.{have_one_name}

-- one more operation is counted, and the vector stays one
counts_on : (v : List Counted) (op : Op) → IsVector v → IsVector (counted v op)
counts_on v op h = IsVector-with_count v op.name.origin (count_in v op.name.origin + 1) h

-- what an operation of an origin and a number is
abbrev pub IsNumbered : ℕ → ℕ → Op → Type 0
IsNumbered origin number op = (op.name.origin ≡ origin) × (op.name.number ≡ number)

there_from : (v : List Counted) (log : List Op) (o k : ℕ) → IsVector v → AreNumbered v log → count_in v o < k →
    k ≤ count_in (fold counted v log) o → (op : Op) × (Has log op × IsNumbered o k op)
there_from v [] o k h n above below = absurd (omega arith)
there_from v (op ∷ log) o k h n above below =
    split (eqb o op.name.origin)
    (λ e. here (eqb-true o op.name.origin e)
    (λ more. later (there_from (counted v op) log o k (counts_on v op h) n.1 more below)))
    (λ e.
    let same : count_in (counted v op) o ≡ count_in v o =
    count_in-other v op o (λ is. eqb-false o op.name.origin e is) in
    later (there_from (counted v op) log o k (counts_on v op h) n.1 (omega arith) below))
  where
    later : ((x : Op) × (Has log x × IsNumbered o k x)) → (x : Op) × (Has (op ∷ log) x × IsNumbered o k x)
    later found = (found.0, (inr found.1.0, found.1.1))

    first : (k ≡ count_in v o + 1) ⊎ (k ≡ count_in v o + 1 → ⊥) → o ≡ op.name.origin → op.name.number ≡ count_in v o
        + 1 → count_in (counted v op) o ≡ count_in v o + 1 →
        (count_in (counted v op) o < k → (x : Op) × (Has (op ∷ log) x × IsNumbered o k x)) → (x : Op)
        × (Has (op ∷ log) x × IsNumbered o k x)
    first (inl this) is number more rest = (op, (inl refl, (sym is, number ∙ sym this)))
    first (inr other) is number more rest = rest (omega arith)

    here : o ≡ op.name.origin → (count_in (counted v op) o < k → (x : Op) × (Has (op ∷ log) x × IsNumbered o k x)) →
        (x : Op) × (Has (op ∷ log) x × IsNumbered o k x)
    here is rest =
        first (cases_eq k (count_in v o + 1)) is (subst (λ q. op.name.number ≡ count_in v q + 1) (sym is) n.0)
        (subst (λ q. count_in (counted v op) q ≡ count_in v q + 1) (sym is) (count_in-counted v op h)) rest

-- a log has an operation for each number up to a count
pub number_there : (log : List Op) (o k : ℕ) → AreNumbered [] log → 1 ≤ k → k ≤ count_in (vector_of log) o → (op : Op)
    × (Has log op × IsNumbered o k op)
number_there log o k n some below = there_from [] log o k tt n (omega arith) below

high_from : (v : List Counted) (log : List Op) → IsVector v → AreNumbered v log →
    AllByRecursion (λ op. count_in v op.name.origin < op.name.number) log
high_from v [] h n = tt
high_from v (op ∷ log) h n = (
  (let number : op.name.number ≡ count_in v op.name.origin + 1 = n.0 in omega arith),
  each-imply (λ x. count_in (counted v op) x.name.origin < x.name.number)
      (λ x. count_in v x.name.origin < x.name.number)
      (λ x l. let most : count_in v x.name.origin
      ≤ count_in (counted v op) x.name.origin = (counted_most v op x.name.origin h).1 in omega arith)
      log (high_from (counted v op) log (counts_on v op h) n.1),
)

-- each number is 1 or more
pub number_some : (log : List Op) (op : Op) → AreNumbered [] log → Has log op → 1 ≤ op.name.number
number_some log op n h = let high : 0 < op.name.number =
    Has-each (λ x. 0 < x.name.number) log op (high_from [] log tt n) h in omega arith

-- none is above the count
pub number_low : (log : List Op) (op : Op) → AreNumbered [] log → Has log op → op.name.number
    ≤ count_in (vector_of log) op.name.origin
number_low log op n h = Has-each (λ x. x.name.number ≤ count_in (vector_of log) x.name.origin) log op
    (numbers_low log n) h

-- no later operation has an operation's name
later_other : (v : List Counted) (x y : Op) (log : List Op) → IsVector v → AreNumbered v (x ∷ log) → Has log y →
    x.name.origin ≡ y.name.origin → x.name.number ≡ y.name.number → ⊥
later_other v x y log h n m origin number =
    let high : count_in (counted v x) y.name.origin < y.name.number =
    Has-each (λ z. count_in (counted v x) z.name.origin < z.name.number) log y
    (high_from (counted v x) log (counts_on v x h) n.1) m in
    let here : count_in (counted v x) y.name.origin ≡ count_in v y.name.origin + 1 =
    subst (λ o. count_in (counted v x) o ≡ count_in v o + 1) origin (count_in-counted v x h) in
    let first : x.name.number ≡ count_in v y.name.origin + 1 =
    subst (λ o. x.name.number ≡ count_in v o + 1) origin n.0 in
    omega arith

decides_from : (v : List Counted) (log : List Op) (a b : Op) → IsVector v → AreNumbered v log → Has log a → Has log b →
    a.name.origin ≡ b.name.origin → a.name.number ≡ b.name.number → a ≡ b
decides_from v [] a b h n ha hb origin number = absurd ha
decides_from v (x ∷ log) a b h n (inl p) (inl q) origin number = sym p ∙ q
decides_from v (x ∷ log) a b h n (inl p) (inr k) origin number =
    absurd (later_other v x b log h n k (ap (λ (z : Op). z.name.origin) p ∙ origin) (ap (λ (z : Op). z.name.number) p
    ∙ number))
decides_from v (x ∷ log) a b h n (inr k) (inl q) origin number =
    absurd (later_other v x a log h n k (ap (λ (z : Op). z.name.origin) q ∙ sym origin)
    (ap (λ (z : Op). z.name.number) q ∙ sym number))
decides_from v (x ∷ log) a b h n (inr k) (inr m) origin number =
    decides_from (counted v x) log a b (counts_on v x h) n.1 k m origin number

-- a name decides its operation
pub name_decides : (log : List Op) (a b : Op) → AreNumbered [] log → Has log a → Has log b → a.name.origin
    ≡ b.name.origin → a.name.number ≡ b.name.number → a ≡ b
name_decides log a b n ha hb origin number = decides_from [] log a b tt n ha hb origin number

-- an operation that was made is in each log whose count has reached its number
pub in_log : (made log : List Op) (op : Op) → AreNumbered [] made → AreNumbered [] log →
    ((one : Op) → Has log one → Has made one) → Has made op → op.name.number ≤ count_in (vector_of log) op.name.origin →
    Has log op
in_log made log op n m within there low =
    let found = number_there log op.name.origin op.name.number m (number_some made op n there) low in
    subst (Has log) (name_decides made found.0 op n (within found.0 found.1.0) there found.1.1.0 found.1.1.1) found.1.0

-- a log that has another's operations of an origin counts at least as many of them
pub counts_most : (log more : List Op) (o : ℕ) → AreNumbered [] log → AreNumbered [] more →
    ((op : Op) → Has log op → op.name.origin ≡ o → Has more op) → count_in (vector_of log) o
    ≤ count_in (vector_of more) o
counts_most log more o n m into = at (cases_eq (count_in (vector_of log) o) 0)
  where
    at : (count_in (vector_of log) o ≡ 0) ⊎ (count_in (vector_of log) o ≡ 0 → ⊥) → count_in (vector_of log) o
        ≤ count_in (vector_of more) o
    at (inl none) = omega arith
    at (inr some) =
        let found = number_there log o (count_in (vector_of log) o) n (omega arith) (omega arith) in
        let origin : found.0.name.origin ≡ o = found.1.1.0 in
        let number : found.0.name.number ≡ count_in (vector_of log) o = found.1.1.1 in
        let low : found.0.name.number ≤ count_in (vector_of more) o =
        subst (λ q. found.0.name.number ≤ count_in (vector_of more) q) origin
        (number_low more found.0 m (into found.0 found.1.0 origin)) in
        omega arith

once_from : (v : List Counted) (log : List Op) → IsVector v → AreNumbered v log → IsDistinct have_one_name log
unfolding IsDistinct
once_from v [] h n = tt
once_from v (x ∷ log) h n = (none log (λ y m. m), once_from (counted v x) log (counts_on v x h) n.1)
  where
    none : (ys : List Op) → ((y : Op) → Has ys y → Has log y) → AllByRecursion (λ y. have_one_name x y ≡ false) ys
    none [] into = tt
    none (y ∷ ys) into = (
      split (have_one_name x y)
          (λ e.
          let both = and_parts (eqb x.name.origin y.name.origin) (eqb x.name.number y.name.number) e in
          absurd (later_other v x y log h n (into y (inl refl)) (eqb-true x.name.origin y.name.origin both.0)
          (eqb-true x.name.number y.name.number both.1)))
          (λ e. e),
      none ys (λ z m. into z (inr m)),
    )

-- no two operations have the same name
pub named_once : (log : List Op) → AreNumbered [] log → IsDistinct have_one_name log
named_once log n = once_from [] log tt n
