-- The statements of the laws of this crate.
use Rattle.std.specs.Prelude.{◌≡◌, ℕ, IsTrue, ◌↔◌, Bool, List, [], ◌∷◌, ◌++◌, Option, Some, Contains, filter, flat_map}
use Rattle.std.specs.Prelude.{IsPermutation}
use Rattle.std.specs.List.{AllByRecursion}
use Rattle.pad_model.specs.Stamp.{Stamp, newer}
use Rattle.pad_model.specs.declared.who.Author.{Author}
use Rattle.pad_model.specs.Character.{Character, run_characters}
use Rattle.pad_model.specs.Legal.{IsTree, MayJoin, RunMayJoin}
use Rattle.pad_model.specs.Order.{children, walk, order}
use Rattle.pad_model.specs.Scan.{put, put_right_behind}
use Rattle.pad_model.specs.Subsequence.{IsSubsequence}

-- the character itself, if the items are characters
abbrev pub itself : Character → Character
itself c = c

-- the descendants of p are each child of p, newest first, followed by its descendants
abbrev pub TreeLaw : Type 0
TreeLaw =
    (s : List Character) → IsTree itself s → (p : Option Stamp) →
    walk itself s p ≡ flat_map (λ c. c ∷ walk itself s (Some c.stamp)) (children itself s p)

-- any function that gives each child followed by its descendants is the walk
abbrev pub UniquenessLaw : Type 0
UniquenessLaw =
    (s : List Character) (f : Option Stamp → List Character) → IsTree itself s →
    ((p : Option Stamp) → f p ≡ flat_map (λ c. c ∷ f (Some c.stamp)) (children itself s p)) →
    (p : Option Stamp) → f p ≡ walk itself s p

-- the order has exactly the characters of the set, each once
abbrev pub MembersLaw : Type 0
MembersLaw = (s : List Character) → IsTree itself s → IsPermutation s (order itself s)

-- two trees with the same characters have the same order, whatever order they are listed in
abbrev pub SetLaw : Type 0
SetLaw =
    (s t : List Character) → IsTree itself s → IsTree itself t
    → ((c : Character) → Contains s c ↔ Contains t c) →
    order itself s ≡ order itself t

-- if one tree has all characters of another, the other's order is a subsequence of its own (the strong list
-- specification)
abbrev pub SubsetLaw : Type 0
SubsetLaw =
    (s u : List Character) → IsTree itself s → IsTree itself u
    → ((c : Character) → Contains s c → Contains u c) →
    IsSubsequence (order itself s) (order itself u)

-- if a part of a tree is itself a tree, its order is that part of the tree's order
abbrev pub RevisionLaw : Type 0
RevisionLaw =
    (u : List Character) (test : Character → Bool) → IsTree itself u → IsTree itself (filter test u)
    →
    order itself (filter test u) ≡ filter test (order itself u)

-- RGA's scan puts a new character at its place in the preorder
abbrev pub ScanLaw : Type 0
ScanLaw =
    (s : List Character) (c : Character) → IsTree itself s → MayJoin itself s c →
    order itself (s ++ c ∷ []) ≡ put itself c.parent c.stamp (c ∷ []) (order itself s)

-- a text that is inserted at once joins the preorder as one block, where the scan puts its first character
abbrev pub RunLaw : Type 0
RunLaw =
    (s : List Character) (first : Stamp) (parent : Option Stamp) (text : List ℕ) (author : Author)
    → IsTree itself s →
    RunMayJoin itself s first parent →
    order itself (s ++ run_characters first parent text author)
    ≡ put itself parent first (run_characters first parent text author) (order itself s)

-- a text newer than all characters goes directly after its parent
abbrev pub NewestLaw : Type 0
NewestLaw =
    (s : List Character) (first : Stamp) (parent : Option Stamp) (text : List ℕ) (author : Author)
    → IsTree itself s →
    RunMayJoin itself s first parent →
    AllByRecursion (λ c. IsTrue (newer first c.stamp)) s →
    order itself (s ++ run_characters first parent text author)
    ≡ put_right_behind itself parent (run_characters first parent text author) (order itself s)
