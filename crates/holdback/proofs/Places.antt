-- A search by name among operations whose names rise.
use Rattle.std.proofs.Common.{◌≡◌, ℕ, zero, suc, ◌<◌, true, false, not, List, [], ◌∷◌, length, get_or, slice_get, Some}
use Rattle.std.proofs.Common.{refl, ap, ◌∙◌, arith}
use Rattle.std.specs.List.{AllByRecursion, find, insert, remove}
use Rattle.std.specs.List.Sorted.{IsPartitionedBy}
use Rattle.std.proofs.lemmas.Option.{slice_get_read}
use Rattle.std.proofs.lemmas.Bool.{or_left, or_right, or_from, cond-true, cond-false}
use Rattle.pad_model.specs.declared.op.Op.{Op}
use Rattle.pad_model.specs.declared.op.OpName.{OpName}
use Rattle.pad_model.proofs.Each.{each-imply, none_found}
use Rattle.holdback.specs.Held.{IsRising, has_name, is_held, with_held, without}
use Rattle.pad_model.specs.Log.{precedes}
use Rattle.holdback.specs.Inside.{IsParted, IsAt, IsGapFor}
use Rattle.pad_model.proofs.Names.{precedes-trans, same-precedes, same-follows, precedes-other, precedes-alike}

each_at : {A : Type 0} (P : A → Type 0) (xs : List A) (k : ℕ) (d : A) → AllByRecursion P xs → k < length xs →
    P (get_or xs k d)
each_at P [] k d h lt = absurd (omega arith)
each_at P (x ∷ xs) zero d h lt = h.0
each_at P (x ∷ xs) (suc k) d h lt = each_at P xs k d h.1 (omega arith)

-- the operations that come before a name precede the others
pub partitioned : (held : List Op) (name : OpName) → IsRising held → IsPartitionedBy (λ op. precedes op.name name) held
partitioned [] name r i j d le lt e = absurd (omega arith)
partitioned (x ∷ held) name r zero zero d le lt e = e
partitioned (x ∷ held) name r zero (suc j) d le lt e =
    precedes-trans x.name (get_or held j d).name name (each_at (λ later. precedes x.name later.name ≡ true) held j d r.0
    (omega arith)) e
partitioned (x ∷ held) name r (suc i) zero d le lt e = absurd (omega arith)
partitioned (x ∷ held) name r (suc i) (suc j) d le lt e = partitioned held name r.1 i j d (omega arith) (omega arith) e

parted_tail : (x : Op) (held : List Op) (name : OpName) (place : ℕ) → IsParted (x ∷ held) name (suc place) →
    IsParted held name place
parted_tail x held name place parts = record {
  in_range = omega (arith, parts.in_range);
  before = λ k d le lt. parts.before (suc k) d (omega arith) (omega arith);
  behind = λ k d le lt. parts.behind (suc k) d (omega arith) (omega arith);
}

-- no later operation has the name of an earlier one
others_behind : (x : Op) (held : List Op) (name : OpName) → IsRising (x ∷ held) → precedes name x.name ≡ true →
    AllByRecursion (λ op. has_name name op ≡ false) (x ∷ held)
others_behind x held name r e = (
  same-follows x.name name e,
  each-imply (λ later. precedes x.name later.name ≡ true) (λ op. has_name name op ≡ false)
      (λ later lt. same-follows later.name name (precedes-trans name x.name later.name e lt)) held r.0,
)

pub others_behind_it : (x : Op) (held : List Op) (name : OpName) → IsRising (x ∷ held) → has_name name x ≡ true →
    AllByRecursion (λ op. has_name name op ≡ false) held
others_behind_it x held name r e =
    each-imply (λ later. precedes x.name later.name ≡ true) (λ op. has_name name op ≡ false)
    (λ later lt. same-follows later.name name (precedes-alike x.name name later.name e lt)) held r.0

pub all_kept : (held : List Op) (name : OpName) → AllByRecursion (λ op. has_name name op ≡ false) held →
    without name held ≡ held
all_kept [] name h = refl
all_kept (x ∷ held) name h = cond-true _ _ _ (ap not h.0) ∙ ap (λ xs. x ∷ xs) (all_kept held name h.1)

-- if the operation at the place has another name, none has the name, and a new one is inserted there
fits : (held : List Op) (op : Op) (place : ℕ) → IsParted held op.name place → with_held op held ≡ insert held place op
fits [] op zero parts = refl
fits [] op (suc place) parts = absurd (omega (arith, parts.in_range))
fits (x ∷ held) op zero parts = cond-false _ _ _ (parts.behind 0 x (omega arith) (omega arith))
fits (x ∷ held) op (suc place) parts =
    cond-true _ _ _ (parts.before 0 x (omega arith) (omega arith)) ∙ ap (λ xs. x ∷ xs)
    (fits held op place (parted_tail x held op.name place parts))

absent : (held : List Op) (name : OpName) (place : ℕ) → IsRising held → IsParted held name place →
    ((x : Op) → slice_get held place ≡ Some x → has_name name x ≡ false) → is_held name held ≡ false
absent [] name place r parts other = refl
absent (x ∷ held) name zero r parts other =
    none_found (has_name name) (x ∷ held)
    (others_behind x held name r (precedes-other x.name name (parts.behind 0 x (omega arith) (omega arith))
    (other x refl)))
absent (x ∷ held) name (suc place) r parts other =
    or_from _ _ (same-precedes x.name name (parts.before 0 x (omega arith) (omega arith)))
    (absent held name place r.1 (parted_tail x held name place parts) other)

pub gap_at : (held : List Op) (name : OpName) (place : ℕ) → IsRising held → IsParted held name place →
    ((x : Op) → slice_get held place ≡ Some x → has_name name x ≡ false) → IsGapFor held name place
gap_at held name place r parts other = record {
  in_range = parts.in_range;
  absent = absent held name place r parts other;
  fits = λ op e. fits held op place (rw e parts);
}

-- if it has the name, it is the only one
found : (held : List Op) (name : OpName) (place : ℕ) (op : Op) → IsRising held → IsParted held name place →
    slice_get held place ≡ Some op → has_name name op ≡ true
    → (is_held name held ≡ true) × (find (has_name name) held ≡ slice_get held place)
    × (without name held ≡ remove held place)
found [] name place op r parts is e = cc
found (x ∷ held) name zero op r parts is e =
    let own : has_name name x ≡ true = cc in (
      or_left _ _ own,
      cond-true _ _ _ own,
      cond-false _ _ _ (ap not own) ∙ all_kept held name (others_behind_it x held name r own),
    )
found (x ∷ held) name (suc place) op r parts is e =
    let other = same-precedes x.name name (parts.before 0 x (omega arith) (omega arith)) in
    let rest = found held name place op r.1 (parted_tail x held name place parts) is e in (
      or_right (has_name name x) _ rest.0,
      cond-false _ _ _ other ∙ rest.1,
      cond-true _ _ _ (ap not other) ∙ ap (λ xs. x ∷ xs) rest.2,
    )

pub found_at : (held : List Op) (name : OpName) (place : ℕ) (op : Op) → IsRising held → IsParted held name place →
    slice_get held place ≡ Some op → has_name name op ≡ true → place < length held → IsAt held name place
found_at held name place op r parts is e lt =
    let facts = found held name place op r parts is e in
    record { in_range = lt; there = facts.0; found = facts.1; rest = facts.2 }

-- what reading an operation gives
pub read_at : (held : List Op) (place : ℕ) (op : Op) → place < length held → op ≡ get_or held place op →
    slice_get held place ≡ Some op
read_at held place op lt e = slice_get_read held (length held) place op refl lt e

pub same_op : (x y : Op) → Some x ≡ Some y → x ≡ y
same_op x y e = cc
