-- When a set of inserted characters forms a tree of insertions (Attiya and others 2016).
use Rattle.std.specs.Prelude.{◌≡◌, ℕ, ◌<◌, Bool, true, false, IsTrue, List, [], ◌∷◌, Option, Some, None}
use Rattle.std.specs.List.{AllByRecursion, IsDistinct, list_any}
use Rattle.pad_model.specs.Stamp.{Stamp, same_stamp}
use Rattle.pad_model.specs.Character.{Character, next}

-- whether one of the items has this stamp
abbrev pub has_stamp : {A : Type 0} → (A → Character) → List A → Stamp → Bool
has_stamp at items s = list_any (λ x. same_stamp (at x).stamp s) items

-- whether the parent is the root, or the stamp of an item
abbrev pub has_parent : {A : Type 0} → (A → Character) → List A → Option Stamp → Bool
has_parent at items None = true
has_parent at items (Some p) = has_stamp at items p

-- whether two items have the same stamp
abbrev pub same_item : {A : Type 0} → (A → Character) → A → A → Bool
same_item at x y = same_stamp (at x).stamp (at y).stamp

-- the counter of a parent: the root has 0
abbrev pub counter_of : Option Stamp → ℕ
counter_of None = 0
counter_of (Some p) = p.counter

-- no stamp is inserted twice, and each parent is there and has a smaller counter
pub record IsTree {A : Type 0} (at : A → Character) (items : List A) : Type 0 where
  pub distinct : IsDistinct (same_item at) items
  pub rooted : AllByRecursion (λ c. IsTrue (has_parent at items (at c).parent)) items
  pub later : AllByRecursion (λ c. counter_of (at c).parent < (at c).stamp.counter) items

-- a character that may join the items: its stamp is new, and its parent is there and has a smaller counter
pub record MayJoin {A : Type 0} (at : A → Character) (items : List A) (c : A) : Type 0 where
  pub fresh : has_stamp at items (at c).stamp ≡ false
  pub rooted : has_parent at items (at c).parent ≡ true
  pub later : counter_of (at c).parent < (at c).stamp.counter

-- a run may join the items: its counters are above all of its replica, and its parent is there and has a smaller
-- counter
pub record RunMayJoin {A : Type 0} (at : A → Character) (items : List A) (first : Stamp)
    (parent : Option Stamp) : Type 0 where
  pub above : AllByRecursion (λ x. (at x).stamp.replica ≡ first.replica
      → (at x).stamp.counter < first.counter) items
  pub rooted : has_parent at items parent ≡ true
  pub later : counter_of parent < first.counter

-- the items are a run: their stamps are consecutive, and the parent of each is the one before it
abbrev pub IsRun : {A : Type 0} → (A → Character) → Stamp → Option Stamp → List A → Type 0
IsRun at first parent [] = Unit {0}
IsRun at first parent (x ∷ xs) = ((at x).stamp ≡ first) × ((at x).parent ≡ parent)
    × IsRun at (next first)
    (Some first) xs
