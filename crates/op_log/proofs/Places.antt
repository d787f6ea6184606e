-- The first place that passes a test: among an origin's marks, of two tests, and what a filter has from there on.
use Rattle.std.proofs.Common.{◌≡◌, ℕ, suc, ◌+◌, ◌≤◌, ◌<◌, Bool, ◌&&◌, ◌||◌, cond, List, [], ◌∷◌, length, get_or}
use Rattle.std.proofs.Common.{Some, None, option_map, filter, count_by, refl, ap, ◌∙◌, arith, zero-add, eqb, ltb, leb}
use Rattle.std.specs.List.{AllByRecursion, find, position, position_or_len}
use Rattle.std.proofs.lemmas.Bool.{ltb-true, ltb-false, leb-true, lt-ltb, le-ltb, le-leb, lt-leb, and_parts}
use Rattle.std.proofs.lemmas.List.Sums.{length-filter}
use Rattle.pad_model.specs.declared.op.Op.{Op}
use Rattle.pad_model.specs.declared.op.OpName.{OpName}
use Rattle.pad_model.proofs.Newer.{split}
use Rattle.op_log.specs.declared.track.Mark.{Mark}
use Rattle.op_log.specs.Log.{is_of, has_name}
use Rattle.op_log.specs.Track.{marks_from, marks_of}
use Rattle.op_log.specs.Index.{first_place, earlier}

-- a search among an origin's marks is one among its operations
pub first_marked : (test : ℕ → ℕ → Bool) (o p : ℕ) (ops : List Op)
    → option_map (λ (m : Mark). m.place) (find (λ m. test m.place m.number) (marks_from o p ops))
    ≡ first_place (λ place op. is_of o op && test place op.name.number) p ops
first_marked test o p [] = refl
first_marked test o p (op ∷ ops) =
    split (is_of o op)
    (λ e. rw e
    (split (test p op.name.number)
    (λ passes. rw passes refl)
    (λ fails. rw fails (first_marked test o (p + 1) ops))))
    (λ e. rw e (first_marked test o (p + 1) ops))

-- an origin has as many marks as operations
own_count : (o p : ℕ) (ops : List Op) → length (marks_from o p ops) ≡ length (filter (is_of o) ops)
own_count o p [] = refl
own_count o p (op ∷ ops) =
    split (is_of o op)
    (λ e. rw e (ap suc (own_count o (p + 1) ops)))
    (λ e. rw e (own_count o (p + 1) ops))

pub marks_count : (o p : ℕ) (ops : List Op) → length (marks_from o p ops) ≡ count_by (is_of o) ops
marks_count o p ops = own_count o p ops ∙ length-filter (is_of o) ops

-- tests that agree find the same place
pub first_place_agree : (f g : ℕ → Op → Bool) (p : ℕ) (ops : List Op) →
    AllByRecursion (λ op. (k : ℕ) → f k op ≡ g k op) ops → first_place f p ops ≡ first_place g p ops
first_place_agree f g p [] h = refl
first_place_agree f g p (op ∷ ops) h = rw (h.0 p) (ap (cond (g p op) (Some p)) (first_place_agree f g (p + 1) ops h.1))

pub first_place_same : (f g : ℕ → Op → Bool) (p : ℕ) (ops : List Op) → ((k : ℕ) (op : Op) → f k op ≡ g k op) →
    first_place f p ops ≡ first_place g p ops
first_place_same f g p [] h = refl
first_place_same f g p (op ∷ ops) h = rw (h p op) (ap (cond (g p op) (Some p)) (first_place_same f g (p + 1) ops h))

-- no place is found before the first
earlier_than_rest : (f : ℕ → Op → Bool) (k p : ℕ) (ops : List Op) → k < p → earlier (Some k) (first_place f p ops)
    ≡ Some k
earlier_than_rest f k p [] lt = refl
earlier_than_rest f k p (op ∷ ops) lt =
    split (f p op)
    (λ e. rw e (ap Some (omega arith)))
    (λ e. rw e (earlier_than_rest f k (p + 1) ops (omega arith)))

rest_is_later : (f : ℕ → Op → Bool) (k p : ℕ) (ops : List Op) → k < p → earlier (first_place f p ops) (Some k) ≡ Some k
rest_is_later f k p [] lt = refl
rest_is_later f k p (op ∷ ops) lt =
    split (f p op)
    (λ e. rw e (ap Some (omega arith)))
    (λ e. rw e (rest_is_later f k (p + 1) ops (omega arith)))

-- the earlier of the places of two tests is the first that passes one of them
pub earlier_of_both : (f g : ℕ → Op → Bool) (p : ℕ) (ops : List Op) → earlier (first_place f p ops)
    (first_place g p ops) ≡ first_place (λ k op. f k op || g k op) p ops
earlier_of_both f g p [] = refl
earlier_of_both f g p (op ∷ ops) =
    split (f p op)
    (λ e. rw e
    (split (g p op)
    (λ also. rw also (ap Some (omega arith)))
    (λ only. rw only (earlier_than_rest g p (p + 1) ops (omega arith)))))
    (λ e. rw e
    (split (g p op)
    (λ only. rw only (rest_is_later f p (p + 1) ops (omega arith)))
    (λ neither. rw neither (earlier_of_both f g (p + 1) ops))))

-- the operations from a place on that pass a test, in a log that begins at a place
abbrev pub picked : (Op → Bool) → ℕ → ℕ → List Op → List Op
picked f from p [] = []
picked f from p (op ∷ ops) = cond (leb from p && f op) (op ∷ picked f from (p + 1) ops) (picked f from (p + 1) ops)

pub picked_all : (f : Op → Bool) (from p : ℕ) (ops : List Op) → from ≤ p → picked f from p ops ≡ filter f ops
picked_all f from p [] le = refl
picked_all f from p (op ∷ ops) le =
    rw (le-leb from p le, picked_all f from (p + 1) ops (omega arith)) refl

-- where no place is found, none is picked
pub picked_none : (f : Op → Bool) (from p : ℕ) (ops : List Op) → first_place (λ k op. leb from k && f op) p ops ≡ None →
    picked f from p ops ≡ []
picked_none f from p [] e = refl
picked_none f from p (op ∷ ops) e =
    split (leb from p && f op)
    (λ t. let some : Some p ≡ None = rw t at e in cc)
    (λ t. rw t (picked_none f from (p + 1) ops (rw t at e)))

-- the first place that is found has the first operation that is picked, and the others stand behind it
pub record IsPick (f : Op → Bool) (from p k : ℕ) (ops : List Op) : Type 0 where
  pub at : ℕ
  pub place : k ≡ p + at
  pub within : at < length ops
  pub first : (d : Op) → picked f from p ops ≡ get_or ops at d ∷ picked f (k + 1) p ops

pub picked_some : (f : Op → Bool) (from p k : ℕ) (ops : List Op) → first_place (λ k op. leb from k && f op) p ops
    ≡ Some k → IsPick f from p k ops
picked_some f from p k [] e = cc
picked_some f from p k (op ∷ ops) e =
    split (leb from p && f op)
    (λ t. let le = leb-true from p (and_parts (leb from p) (f op) t).0 in
    let is : Some p ≡ Some k = rw t at e in
    let same : p ≡ k = cc in
    record {
      at = 0;
      place = omega arith;
      within = omega arith;
      first = λ d. rw (
        t,
        lt-leb (k + 1) p (omega arith),
        picked_all f from (p + 1) ops (omega arith),
        picked_all f (k + 1) (p + 1) ops (omega arith),
      ) refl;
    })
    (λ t. let rest = picked_some f from (p + 1) k ops (rw t at e) in
    let place = rest.place in
    let within = rest.within in
    record {
      at = suc rest.at;
      place = omega arith;
      within = omega arith;
      first = λ d. rw (t, lt-leb (k + 1) p (omega arith)) (rest.first d);
    })

-- the same in std's word
pub first_position : (f : Op → Bool) (p : ℕ) (ops : List Op) → first_place (λ k op. f op) p ops
    ≡ cond (ltb (position_or_len f ops) (length ops)) (Some (p + position_or_len f ops)) None
first_position f p [] = refl
first_position f p (op ∷ ops) =
    split (f op)
    (λ e. rw (e, lt-ltb 0 (suc (length ops)) (omega arith)) (ap Some (omega arith)))
    (λ e. rw e (first_position f (p + 1) ops ∙ one_on p (position_or_len f ops) (length ops)))
  where
    one_on : (p at n : ℕ) → cond (ltb at n) (Some (p + 1 + at)) None ≡ cond (ltb (1 + at) (suc n))
        (Some (p + (1 + at))) None
    one_on p at n =
        split (ltb at n)
        (λ t. let lt = ltb-true at n t in rw (t, lt-ltb (1 + at) (suc n) (omega arith)) (ap Some (omega arith)))
        (λ t. let le = ltb-false at n t in rw (t, le-ltb (1 + at) (suc n) (omega arith)) refl)

-- the first of an origin's marks with a number has the place of the first operation with that name
pub named_position : (name : OpName) (ops : List Op) → option_map (λ (m : Mark). m.place)
    (find (λ m. eqb m.number name.number) (marks_of name.origin ops)) ≡ position (has_name name) ops
named_position name ops =
    first_marked (λ place number. eqb number name.number) name.origin 0 ops ∙ first_position (has_name name) 0 ops
    ∙ ap (λ (k : ℕ). cond (ltb (position_or_len (has_name name) ops) (length ops)) (Some k) None)
    (zero-add (position_or_len (has_name name) ops))
