-- Rows of names: a row grows by one name after the others, or stays.
use Rattle.std.proofs.Common.{◌≡◌, ◌⊎◌, inl, inr, ℕ, zero, suc, ◌+◌, ◌<◌, ◌≤◌, eqb, List, [], ◌∷◌, ◌++◌, length, Option}
use Rattle.std.proofs.Common.{Some, None, refl, sym, ap, ◌∙◌, subst, arith, eqb-true}
use Rattle.std.specs.List.{AllByRecursion, slice_get, slice_set, repeat}
use Rattle.std.specs.Prelude.{filter}
use Rattle.std.proofs.lemmas.Bool.{eqb-false}
use Rattle.std.proofs.lemmas.Option.{slice_get_within}
use Rattle.pad_model.proofs.Newer.{split}
use Rattle.server_core.specs.Names.{AreNamedInTurn, NamesStay}

-- what was put is there
pub get-set_same : {X : Type 0} (xs : List X) (i : ℕ) (x : X) → i < length xs → slice_get (slice_set xs i x) i ≡ Some x
get-set_same [] i x low = absurd (omega (arith, low))
get-set_same (y ∷ ys) zero x low = refl
get-set_same (y ∷ ys) (suc i) x low = get-set_same ys i x (omega (arith, low))

-- and nothing else changed
pub get-set_other : {X : Type 0} (xs : List X) (i j : ℕ) (x : X) → (j ≡ i → ⊥) → slice_get (slice_set xs i x) j
    ≡ slice_get xs j
get-set_other [] i j x other = refl
get-set_other (y ∷ ys) zero zero x other = absurd (other refl)
get-set_other (y ∷ ys) zero (suc j) x other = refl
get-set_other (y ∷ ys) (suc i) zero x other = refl
get-set_other (y ∷ ys) (suc i) (suc j) x other = get-set_other ys i j x (λ e. other (ap suc e))

-- the cells before one have other names than it
abbrev pub ArePassed : List (Option (List ℕ)) → List ℕ → ℕ → Type 0
ArePassed names pad cell = (i : ℕ) → i < cell → (name : List ℕ) × (slice_get names i ≡ Some (Some name))
    × (name ≡ pad → ⊥)

-- a row that stays, or that has one more name after the others
abbrev pub Grows : List (Option (List ℕ)) → List (Option (List ℕ)) → Type 0
Grows old new =
    (new ≡ old) ⊎ ((cell : ℕ) × (pad : List ℕ) × (slice_get old cell ≡ Some None) × ArePassed old pad cell
    × (new ≡ slice_set old cell (Some pad)))

-- a cell with a name is not one without
not_unnamed : (names : List (Option (List ℕ))) (cell : ℕ) (name : List ℕ) → slice_get names cell ≡ Some None →
    slice_get names cell ≡ Some (Some name) → ⊥
not_unnamed names cell name e f = absurd (cc)

stay-set : (names : List (Option (List ℕ))) (cell : ℕ) (pad : List ℕ) → slice_get names cell ≡ Some None →
    NamesStay names (slice_set names cell (Some pad))
stay-set names cell pad e j name there =
    get-set_other names cell j (Some pad)
    (λ same. not_unnamed names cell name e (subst (λ k. slice_get names k ≡ Some (Some name)) same there)) ∙ there

pub grows-stay : (old new : List (Option (List ℕ))) → Grows old new → NamesStay old new
grows-stay old new (inl e) = λ j name there. subst (λ names. slice_get names j ≡ Some (Some name)) (sym e) there
grows-stay old new (inr (cell, pad, unnamed, passed, e)) = subst (λ names. NamesStay old names) (sym e)
    (stay-set old cell pad unnamed)

none-other : (name : List ℕ) (names : List (Option (List ℕ))) → AllByRecursion (λ n. n ≡ None) names →
    AllByRecursion (λ other. other ≡ Some name → ⊥) names
none-other name [] h = h
none-other name (x ∷ names) h = ((λ e. absurd (some_none x name h.0 e)), none-other name names h.1)
  where
    some_none : (x : Option (List ℕ)) (name : List ℕ) → x ≡ None → x ≡ Some name → ⊥
    some_none x name e f = absurd (cc)

pub none-turn : (names : List (Option (List ℕ))) → AllByRecursion (λ n. n ≡ None) names → AreNamedInTurn names
none-turn [] h = h
none-turn (None ∷ names) h = h.1
none-turn (Some name ∷ names) h = absurd (cc)

other-set : (name pad : List ℕ) (names : List (Option (List ℕ))) (cell : ℕ) → (pad ≡ name → ⊥) →
    AllByRecursion (λ other. other ≡ Some name → ⊥) names →
    AllByRecursion (λ other. other ≡ Some name → ⊥) (slice_set names cell (Some pad))
other-set name pad [] cell other h = h
other-set name pad (x ∷ names) zero other h = ((λ e. other (cc)), h.1)
other-set name pad (x ∷ names) (suc cell) other h = (h.0, other-set name pad names cell other h.1)

unnamed_first : (name : List ℕ) (rest : List (Option (List ℕ))) → slice_get (None ∷ rest) 0 ≡ Some (Some name) → ⊥
unnamed_first name rest e = absurd (cc)

first_name : (x name : List ℕ) (rest : List (Option (List ℕ))) → slice_get (Some x ∷ rest) 0 ≡ Some (Some name) →
    x ≡ name
first_name x name rest e = cc

turn-set : (names : List (Option (List ℕ))) (cell : ℕ) (pad : List ℕ) → AreNamedInTurn names → slice_get names cell
    ≡ Some None → ArePassed names pad cell →
    AreNamedInTurn (slice_set names cell (Some pad))
turn-set [] cell pad turn e passed = absurd (cc)
turn-set (None ∷ names) zero pad turn e passed = (none-other pad names turn, none-turn names turn)
turn-set (None ∷ names) (suc cell) pad turn e passed = let first = passed 0 (omega arith) in
    absurd (unnamed_first first.0 names first.1)
turn-set (Some x ∷ names) zero pad turn e passed = absurd (cc)
turn-set (Some x ∷ names) (suc cell) pad turn e passed =
    let first = passed 0 (omega arith) in
    let here : x ≡ first.0 = first_name x first.0 names first.1 in (
      other-set x pad names cell (λ same. first.2 (sym here ∙ sym same)) turn.0,
      turn-set names cell pad turn.1 e (λ i low. passed (suc i) (omega (arith, low))),
    )

pub grows-turn : (old new : List (Option (List ℕ))) → Grows old new → AreNamedInTurn old → AreNamedInTurn new
grows-turn old new (inl e) turn = subst AreNamedInTurn (sym e) turn
grows-turn old new (inr (cell, pad, unnamed, passed, e)) turn = subst AreNamedInTurn (sym e)
    (turn-set old cell pad turn unnamed passed)

pub passed-stay : (old new : List (Option (List ℕ))) (pad : List ℕ) (cell : ℕ) → NamesStay old new →
    ArePassed old pad cell → ArePassed new pad cell
passed-stay old new pad cell stay passed i low = let h = passed i low in (h.0, stay i h.0 h.1, h.2)

-- one more cell of another name is passed
pub passed-more : (names : List (Option (List ℕ))) (pad name : List ℕ) (cell : ℕ) → slice_get names cell
    ≡ Some (Some name) → (name ≡ pad → ⊥) → ArePassed names pad cell →
    ArePassed names pad (cell + 1)
passed-more names pad name cell here other passed i low =
    split (eqb i cell)
    (λ e. (name, ap (λ k. slice_get names k) (eqb-true i cell e) ∙ here, other))
    (λ e. passed i (below i cell low (eqb-false i cell e)))
  where
    below : (i cell : ℕ) → i < cell + 1 → (i ≡ cell → ⊥) → i < cell
    below i cell low other = omega (arith, low, other)

-- lists of which each item passes
pub each-filter : {X : Type 0} (P : X → Type 0) (f : X → Rattle.std.proofs.Common.Bool) (xs : List X) →
    AllByRecursion P xs → AllByRecursion P (filter f xs)
each-filter P f [] h = h
each-filter P f (x ∷ xs) h = split (f x) (λ e. rw e (h.0, each-filter P f xs h.1)) (λ e. rw e (each-filter P f xs h.1))

pub each-append : {X : Type 0} (P : X → Type 0) (xs : List X) (x : X) → AllByRecursion P xs → P x →
    AllByRecursion P (xs ++ x ∷ [])
each-append P [] x h p = (p, h)
each-append P (y ∷ ys) x h p = (h.0, each-append P ys x h.1 p)

pub each-set : {X : Type 0} (P : X → Type 0) (xs : List X) (i : ℕ) (x : X) → AllByRecursion P xs → P x →
    AllByRecursion P (slice_set xs i x)
each-set P [] i x h p = h
each-set P (y ∷ ys) zero x h p = (p, h.1)
each-set P (y ∷ ys) (suc i) x h p = (h.0, each-set P ys i x h.1 p)

pub some-same : {X : Type 0} (x y : X) → Some x ≡ Some y → x ≡ y
some-same x y e = cc

pub each-get : {X : Type 0} (P : X → Type 0) (xs : List X) (i : ℕ) (x : X) → AllByRecursion P xs → slice_get xs i
    ≡ Some x → P x
each-get P [] i x h e = absurd (cc)
each-get P (y ∷ ys) zero x h e = subst P (some-same y x e) h.0
each-get P (y ∷ ys) (suc i) x h e = each-get P ys i x h.1 e

pub each-weaken : {X : Type 0} (P Q : X → Type 0) (xs : List X) → ((x : X) → P x → Q x) → AllByRecursion P xs →
    AllByRecursion Q xs
each-weaken P Q [] f h = h
each-weaken P Q (x ∷ xs) f h = (f x h.0, each-weaken P Q xs f h.1)

pub each-repeat : {X : Type 0} (P : X → Type 0) (n : ℕ) (x : X) → P x → AllByRecursion P (repeat n (x ∷ []))
each-repeat P zero x p = tt
each-repeat P (suc n) x p = (p, each-repeat P n x p)
