-- The authors of visits, as places among the names.
use Rattle.std.proofs.Common.{◌≡◌, ℕ, zero, suc, ◌+◌, ◌<◌, true, List, [], ◌∷◌, ◌++◌, Option, None, Some, length, map}
use Rattle.std.proofs.Common.{slice_get, refl, sym, ap, ap₂, ◌∙◌, arith, bytes_eq}
use Rattle.std.proofs.lemmas.List.{length-append, map-append}
use Rattle.std.proofs.lemmas.Option.{slice_get-map}
use Rattle.std.proofs.lemmas.Slice.Eq.{bytes_eq-Decides}
use Rattle.std.specs.List.{AllByRecursion, list_any}
use Rattle.std.specs.Option.{option_map}
use Rattle.indexmap.specs.IndexSet.{insert_key}
use Rattle.pad_model.proofs.Newer.{split}
use Rattle.presence.specs.Authors.{is_author, is_author_at}
use Rattle.presence.specs.AuthorPlaces.{name_at, IsBelow}

-- a place keeps its name where names are added
name_stays : (names more : List (List ℕ)) (place : ℕ) → place < length names →
    slice_get (names ++ more) place ≡ slice_get names place
name_stays [] more place lt = absurd (omega arith)
name_stays (x ∷ xs) more zero lt = refl
name_stays (x ∷ xs) more (suc place) lt = name_stays xs more place (omega arith)

names_stay : (names more : List (List ℕ)) (places : List (Option ℕ)) → AllByRecursion (IsBelow (length names)) places →
    map (name_at (names ++ more)) places ≡ map (name_at names) places
names_stay names more [] h = refl
names_stay names more (None ∷ places) h = ap (λ (r : List (Option (List ℕ))). None ∷ r) (names_stay names more places h.1)
names_stay names more (Some place ∷ places) h =
    ap₂ (λ (x : Option (List ℕ)) (r : List (Option (List ℕ))). x ∷ r) (name_stays names more place h.0)
    (names_stay names more places h.1)

-- the authors so far stay where a name is put in
put_in : (names : List (List ℕ)) (name : List ℕ) (places : List (Option ℕ)) →
    AllByRecursion (IsBelow (length names)) places →
    map (name_at (insert_key bytes_eq names name)) places ≡ map (name_at names) places
put_in names name places h =
    split (list_any (bytes_eq name) names)
    (λ t. rw t refl)
    (λ f. rw f (names_stay names (name ∷ []) places h))

-- one more visit, at the place of a name
pub pushed : (names after : List (List ℕ)) (places : List (Option ℕ)) (name kept : List ℕ) (place : ℕ) →
    AllByRecursion (IsBelow (length names)) places → after ≡ insert_key bytes_eq names name →
    slice_get after place ≡ Some kept → bytes_eq name kept ≡ true →
    map (name_at after) (places ++ Some place ∷ []) ≡ map (name_at names) places ++ Some name ∷ []
pushed names after places name kept place h keys stored same =
    map-append (name_at after) places (Some place ∷ [])
    ∙ ap₂ (λ (r : List (Option (List ℕ))) (o : Option (List ℕ)). r ++ o ∷ [])
    (ap (λ (ns : List (List ℕ)). map (name_at ns) places) keys ∙ put_in names name places h)
    (stored ∙ ap (λ (n : List ℕ). Some n) (sym ((bytes_eq-Decides name kept).0 same)))

-- one more author for one more number
pub one_more : (authors after : List (Option (List ℕ))) (author : Option (List ℕ)) (given number : ℕ) →
    after ≡ authors ++ author ∷ [] → length authors ≡ given → number ≡ given + 1 → length after ≡ number
one_more authors after author given number e h next =
    ap length e ∙ length-append authors (author ∷ []) ∙ ap (λ (n : ℕ). n + 1) h ∙ sym next

-- whose visit it was is told by the name at its place
pub named_where_found : (names : List (List ℕ)) (places : List (Option ℕ)) (author name : List ℕ) (at place : ℕ) →
    slice_get places at ≡ Some (Some place) → slice_get names place ≡ Some name →
    bytes_eq name author ≡ is_author_at at author (map (name_at names) places)
named_where_found names places author name at place kept found =
    sym (ap (is_author author) (slice_get-map (name_at names) places at
    ∙ ap (option_map (name_at names)) kept ∙ ap (λ (o : Option (List ℕ)). Some o) found))
