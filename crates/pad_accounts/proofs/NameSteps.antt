-- A step of each loop over names.
use Rattle.std.proofs.Common.{◌≡◌, ◌∙◌, ℕ, ◌+◌, ◌<◌, List, [], ◌∷◌, ◌++◌, map, length, get_or, take, drop, Option, Some, None, ap, sym}
use Rattle.std.proofs.lemmas.List.{drop_more, map-append, take_more}
use Rattle.pad_accounts.specs.Names.{fault_of, fault_or, first_fault}
use Rattle.pad_accounts.specs.declared.names.ListedName.{ListedName}
use Rattle.pad_accounts.specs.declared.names.NameFault.{NameFault}

-- one more item of one list for the next of another
pub one_for_each : {X Y Z : Type 0} (f : X → Z) (g : Y → Z) (xs : List X) (x : X) (ys : List Y) (i : ℕ) (d : Y)
    → i < length ys → f x ≡ g (get_or ys i d) → map f xs ≡ map g (take i ys)
    → map f (xs ++ x ∷ []) ≡ map g (take (i + 1) ys)
one_for_each {Z = Z} f g xs x ys i d lt same so_far =
    map-append f xs (x ∷ [])
    ∙ ap (λ (zs : List Z). zs ++ f x ∷ []) so_far
    ∙ ap (λ (z : Z). map g (take i ys) ++ z ∷ []) same
    ∙ sym (map-append g (take i ys) (get_or ys i d ∷ []))
    ∙ ap (map g) (sym (take_more ys i d lt))

-- the next name can be added
pub no_fault_here : (lines : List (List ℕ)) (names : List ListedName) (i : ℕ) (d : ListedName) → i < length names
    → fault_of lines (take i names) (get_or names i d).name.now ≡ None
    → first_fault lines (take i names) (drop i names) ≡ first_fault lines (take (i + 1) names) (drop (i + 1) names)
no_fault_here lines names i d lt none =
    ap (first_fault lines (take i names)) (drop_more names i d lt)
    ∙ ap (λ (f : Option NameFault). fault_or (get_or names i d) f
    (first_fault lines (take i names ++ get_or names i d ∷ []) (drop (i + 1) names))) none
    ∙ ap (λ (before : List ListedName). first_fault lines before (drop (i + 1) names)) (sym (take_more names i d lt))

-- the next name cannot be added
pub fault_here : (lines : List (List ℕ)) (names : List ListedName) (i : ℕ) (d : ListedName) (fault : NameFault)
    → i < length names → fault_of lines (take i names) (get_or names i d).name.now ≡ Some fault
    → first_fault lines (take i names) (drop i names) ≡ Some (record { named = get_or names i d; fault = fault })
fault_here lines names i d fault lt some =
    ap (first_fault lines (take i names)) (drop_more names i d lt)
    ∙ ap (λ (f : Option NameFault). fault_or (get_or names i d) f
    (first_fault lines (take i names ++ get_or names i d ∷ []) (drop (i + 1) names))) some
