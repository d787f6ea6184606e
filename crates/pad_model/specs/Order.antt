-- The order of a text: the walk of its tree of insertions in preorder, newest sibling first (Attiya and others 2016).
-- The items may be of any type that carries an inserted character; `at` gives that character.
use Rattle.std.specs.Prelude.{Bool, true, false, if◌then◌else◌, List, [], ◌∷◌, ◌++◌, Option, Some, None, filter, fold}
use Rattle.std.specs.Prelude.{reverse}
use Rattle.pad_model.specs.Stamp.{Stamp, newer, same_stamp}
use Rattle.pad_model.specs.Character.{Character}

-- both are the root, or both are the same stamp
abbrev pub same_parent : Option Stamp → Option Stamp → Bool
same_parent None None = true
same_parent None (Some b) = false
same_parent (Some a) None = false
same_parent (Some a) (Some b) = same_stamp a b

-- the items with c inserted before the first newer one
abbrev pub put_rising : {A : Type 0} → (A → Character) → A → List A → List A
put_rising at c [] = c ∷ []
put_rising at c (x ∷ xs) = if newer (at x).stamp (at c).stamp then c ∷ x ∷ xs
    else x ∷ put_rising at c xs

-- the items from the oldest to the newest
abbrev pub rising : {A : Type 0} → (A → Character) → List A → List A
rising at items = fold (λ sorted c. put_rising at c sorted) [] items

-- the children of p, newest first
abbrev pub children : {A : Type 0} → (A → Character) → List A → Option Stamp → List A
children at items p = reverse (filter (λ c. same_parent (at c).parent p) (rising at items))

-- the descendants of p in preorder with the newest child first, for items from the oldest to the newest
abbrev pub walk_rising : {A : Type 0} → (A → Character) → List A → Option Stamp → List A
walk_rising at [] p = []
walk_rising at (c ∷ later) p =
    if same_parent (at c).parent p then walk_rising at later p ++ c
    ∷ walk_rising at later (Some (at c).stamp)
    else walk_rising at later p

-- the descendants of p in preorder with the newest child first, for items in any order
abbrev pub walk : {A : Type 0} → (A → Character) → List A → Option Stamp → List A
walk at items p = walk_rising at (rising at items) p

-- all items in preorder, from the root
abbrev pub order : {A : Type 0} → (A → Character) → List A → List A
order at items = walk at items None
