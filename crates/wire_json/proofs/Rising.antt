-- One more count of a vector that is read.
use Rattle.std.proofs.Common.{◌≡◌, ℕ, suc, ◌+◌, ◌≤◌, ◌<◌, List, [], ◌∷◌, ◌++◌, length, get_or, drop, Option, Some, None}
use Rattle.std.proofs.Common.{option_map, refl, sym, ap, ◌∙◌, subst, arith, add-one, drop-cons, append_assoc}
use Rattle.std.proofs.lemmas.Bool.{cond-true, cond-false, lt-ltb, ne_eqb}
use Rattle.std.specs.List.{AllByRecursion}
use Rattle.serde_json.specs.Data.{Data, Items, item}
use Rattle.serde_json.specs.View.{view, items_view}
use Rattle.serde_json.specs.declared.value.Value.{Value}
use Rattle.pad_model.specs.Seen.{with_count}
use Rattle.pad_model.specs.declared.seen.Counted.{Counted}
use Rattle.wire_json.specs.Reading.{counted_in, rising_in}

-- a count above all others goes last
count_last : (done : List Counted) (floor : ℕ) (pair : Counted) → floor < pair.origin → 1 ≤ pair.count →
    AllByRecursion (λ p. p.origin ≤ floor) done
    → with_count done pair.origin pair.count ≡ done ++ pair ∷ []
count_last [] floor pair above some below = cond-false _ _ _ (ne_eqb pair.count 0 (λ e. omega arith))
count_last (p ∷ done) floor pair above some below =
    cond-true _ _ _ (lt-ltb p.origin pair.origin (omega (arith, below.0))) ∙ ap (λ pairs. p ∷ pairs)
    (count_last done floor pair above some below.1)

join : (done : List Counted) (pair : Counted) (rest : Option (List Counted)) → option_map (λ pairs. done ++ pairs)
    (option_map (λ pairs. pair ∷ pairs) rest) ≡ option_map (λ pairs. (done ++ pair ∷ []) ++ pairs) rest
join done pair None = refl
join done pair (Some pairs) = ap Some (sym (append_assoc done (pair ∷ []) pairs))

step : (done : List Counted) (floor : ℕ) (d : Data) (ds : Items) (pair : Counted) → counted_in d ≡ Some pair →
    floor < pair.origin
    → option_map (λ pairs. done ++ pairs) (rising_in floor (item d ds))
    ≡ option_map (λ pairs. (done ++ pair ∷ []) ++ pairs) (rising_in pair.origin ds)
step done floor d ds pair is above = rw (is, lt-ltb floor pair.origin above) (join done pair (rising_in pair.origin ds))

-- the counts that were read, with one more
pub next_counted : (all : Option (List Counted)) (items : List Value) (i : ℕ) (v : Value) (done new : List Counted)
    (floor : ℕ) (pair : Counted)
    → i < length items → v ≡ get_or items i v → counted_in (view v) ≡ Some pair → floor < pair.origin → 1 ≤ pair.count
    → AllByRecursion (λ p. p.origin ≤ floor) done → new ≡ with_count done pair.origin pair.count
    → all ≡ option_map (λ rest. done ++ rest) (rising_in floor (items_view (drop i items)))
    → all ≡ option_map (λ rest. new ++ rest) (rising_in pair.origin (items_view (drop (i + 1) items)))
next_counted all items i v done new floor pair inside here is above some below new_is before =
    let appended : new ≡ done ++ pair ∷ [] = new_is ∙ count_last done floor pair above some below in
    let cut : drop i items ≡ v ∷ drop (suc i) items = drop-cons items i v inside ∙ ap (λ x. x ∷ drop (suc i) items)
    (sym here) in
    rw (appended, add-one) (before ∙ rw cut (step done floor (view v) (items_view (drop (suc i) items)) pair is above))

raised : (done : List Counted) (floor : ℕ) (pair : Counted) → floor < pair.origin →
    AllByRecursion (λ p. p.origin ≤ floor) done → AllByRecursion (λ p. p.origin ≤ pair.origin) (done ++ pair ∷ [])
raised [] floor pair above below = (omega arith, tt)
raised (p ∷ done) floor pair above below = (omega (arith, below.0), raised done floor pair above below.1)

-- and no origin is above the last one
pub next_below : (done new : List Counted) (floor : ℕ) (pair : Counted) → floor < pair.origin → 1 ≤ pair.count
    → AllByRecursion (λ p. p.origin ≤ floor) done → new ≡ with_count done pair.origin pair.count →
    AllByRecursion (λ p. p.origin ≤ pair.origin) new
next_below done new floor pair above some below new_is =
    subst (λ pairs. AllByRecursion (λ p. p.origin ≤ pair.origin) pairs)
    (sym (new_is ∙ count_last done floor pair above some below)) (raised done floor pair above below)
