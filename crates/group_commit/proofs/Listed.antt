-- The cells that are due, and the numbers of the notes that made them so.
use Rattle.std.proofs.Common.{◌≡◌, ℕ, ◌≤◌, ◌<◌, ◌⊎◌, arith, inl, inr, zero, suc, List, [], ◌∷◌, ◌++◌, true, false, Bool, ◌||◌, ◌==◌, refl, sym, ap, ◌∙◌, subst}
use Rattle.std.proofs.Math.ListN.{get_or, set}
use Rattle.std.proofs.lemmas.Bool.Decides.{nat_tests}
use Rattle.std.proofs.lemmas.List.Folds.{list_any-append}
use Rattle.group_commit.specs.Rounds.{AreListed, is_due}

-- a place of a list after a write is as it was, or is what was written
set_or : (l : List ℕ) (i m j : ℕ) → (get_or (set l i m) j 0 ≡ get_or l j 0) ⊎ ((get_or (set l i m) j 0 ≡ m) × (j ≡ i))
set_or [] i m j = inl refl
set_or (x ∷ l) zero m zero = inr (refl, refl)
set_or (x ∷ l) zero m (suc j) = inl refl
set_or (x ∷ l) (suc i) m zero = inl refl
set_or (x ∷ l) (suc i) m (suc j) = deeper (set_or l i m j)
  where
    deeper : (get_or (set l i m) j 0 ≡ get_or l j 0) ⊎ ((get_or (set l i m) j 0 ≡ m) × (j ≡ i)) →
        (get_or (set (x ∷ l) (suc i) m) (suc j) 0 ≡ get_or (x ∷ l) (suc j) 0)
        ⊎ ((get_or (set (x ∷ l) (suc i) m) (suc j) 0 ≡ m) × (suc j ≡ suc i))
    deeper (inl same) = inl same
    deeper (inr at) = inr (at.0, ap suc at.1)

-- a cell that is put behind is due
pub due_behind : (cell : ℕ) (due later : List ℕ) → later ≡ due ++ cell ∷ [] → is_due cell later ≡ true
due_behind cell due later is =
    ap (is_due cell) is ∙ list_any-append (λ other. other == cell) due (cell ∷ [])
    ∙ (let here : (cell == cell) ≡ true = grind (arith, nat_tests) in or_true (is_due cell due) (cell == cell) here)
  where
    or_true : (a b : Bool) → b ≡ true → (a || (b || false)) ≡ true
    or_true true b is_true = refl
    or_true false b is_true = ap (λ c. c || false) is_true

-- and those that were due stay so
due_before : (cell other : ℕ) (due later : List ℕ) → later ≡ due ++ other ∷ [] → is_due cell due ≡ true → is_due cell later ≡ true
due_before cell other due later is was =
    ap (is_due cell) is ∙ list_any-append (λ it. it == cell) due (other ∷ []) ∙ ap (λ b. b || is_due cell (other ∷ [])) was

pub due_by_number : (listed : List ℕ) (noted upto : ℕ) (due : List ℕ) (cell : ℕ) → AreListed listed noted upto due
    → upto < get_or listed cell 0 → is_due cell due ≡ true
due_by_number listed noted upto due cell are later = are.listed_due cell later

pub listed_later : (listed : List ℕ) (noted upto more : ℕ) (due : List ℕ) → AreListed listed noted upto due → noted ≤ more →
    AreListed listed more upto due
listed_later listed noted upto more due are fewer = record {
  counted = λ cell. let was = are.counted cell in omega arith;
  listed_due = are.listed_due;
}

pub listed_same : (listed : List ℕ) (noted upto : ℕ) (due same : List ℕ) → AreListed listed noted upto due → same ≡ due →
    AreListed listed noted upto same
listed_same listed noted upto due same are is = subst (λ it. AreListed listed noted upto it) (sym is) are

-- a cell is put behind those that are due, with the number of its note, or of none where it has no place
pub listed_now : (listed : List ℕ) (noted upto cell more : ℕ) (due later : List ℕ) → AreListed listed noted upto due
    → noted ≤ more → later ≡ due ++ cell ∷ [] →
    AreListed (set listed cell more) more upto later × AreListed listed more upto later
listed_now listed noted upto cell more due later are fewer is = (
  record {
    counted = λ other. counted_at other (set_or listed cell more other);
    listed_due = λ other after. due_at other (set_or listed cell more other) after;
  },
  record {
    counted = λ other. let was = are.counted other in omega arith;
    listed_due = λ other after. due_before other cell due later is (are.listed_due other after);
  },
)
  where
    counted_at : (other : ℕ)
        → (get_or (set listed cell more) other 0 ≡ get_or listed other 0)
        ⊎ ((get_or (set listed cell more) other 0 ≡ more) × (other ≡ cell)) →
        get_or (set listed cell more) other 0 ≤ more
    counted_at other (inl same) = let was = are.counted other in omega (arith, same)
    counted_at other (inr at) = let here = at.0 in omega (arith, here)

    due_at : (other : ℕ)
        → (get_or (set listed cell more) other 0 ≡ get_or listed other 0)
        ⊎ ((get_or (set listed cell more) other 0 ≡ more) × (other ≡ cell)) → upto < get_or (set listed cell more) other 0 →
        is_due other later ≡ true
    due_at other (inl same) after = due_before other cell due later is (are.listed_due other (subst (λ n. upto < n) same after))
    due_at other (inr at) after = subst (λ c. is_due c later ≡ true) (sym at.1) (due_behind cell due later is)
