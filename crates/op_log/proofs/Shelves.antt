-- What a shelf counts.
use Rattle.std.proofs.Common.{◌≡◌, ℕ, ◌+◌, List, [], ◌∷◌, ◌++◌, length, flat_map, Option, Some, None, is_some, true}
use Rattle.std.proofs.Common.{refl, ap, ◌∙◌, length-append, append-nil}
use Rattle.std.proofs.lemmas.List.Concat.{flat_map-append}

-- one item more
pub one_more : (ready : Option (List ℕ)) (old new : List (List ℕ)) → is_some ready ≡ true →
    ((item : List ℕ) → ready ≡ Some item → new ≡ old ++ item ∷ []) → length new ≡ length old + 1
one_more None old new some more = absurd (cc)
one_more (Some item) old new some more = ap length (more item refl) ∙ length-append old (item ∷ [])

-- the last page joins the full ones
pub page_joins : {A B : Type 0} (f : A → List B) (pages : List A) (page : A) (items last : List B) → f page ≡ items →
    last ≡ [] → flat_map f (pages ++ page ∷ []) ++ last ≡ flat_map f pages ++ items
page_joins f pages page items last is none =
    ap (λ (xs : List _). flat_map f (pages ++ page ∷ []) ++ xs) none ∙ append-nil (flat_map f (pages ++ page ∷ []))
    ∙ flat_map-append f pages (page ∷ [])
    ∙ ap (λ (xs : List _). flat_map f pages ++ xs) (append-nil (f page) ∙ is)
