-- Tables of authors that grow, and what is read from them.
use Rattle.std.proofs.Common.{◌≡◌, ◌≢◌, ◌⊎◌, inl, inr, ℕ, ◌==◌, ◌≤◌, ◌<◌, true, false, List, [], ◌∷◌, ◌++◌, length, map}
use Rattle.std.proofs.Common.{Option, Some, None, refl, ap, ap₂, arith, length-append}
use Rattle.std.specs.List.{AllByRecursion}
use Rattle.std.specs.Str.{bytes_eq}
use Rattle.std.proofs.lemmas.Bool.{eqb-true, eq-eqb, and_from, and_parts, false_from_ne_true}
use Rattle.std.proofs.lemmas.List.{get_or_append_left}
use Rattle.std.proofs.lemmas.Slice.Eq.{bytes_eq-Decides}
use Rattle.pad_model.specs.Visible.{same_author}
use Rattle.pad_model.specs.declared.who.Author.{Author}
use Rattle.authorship.specs.Authors.{Spare}
use Rattle.authorship.specs.StoredRuns.{author_in, spare_in, HasRoom}
use Rattle.authorship.specs.declared.stored_run.KeptSpare.{KeptSpare}

-- an author is the same as itself
pub same_author-refl : (a : Author) → same_author a a ≡ true
same_author-refl a = and_from (bytes_eq a.name a.name) (a.origin == a.origin) ((bytes_eq-Decides a.name a.name).1 refl)
    (eq-eqb a.origin a.origin refl)

-- authors that pass the test are one
pub same_author-one : (a b : Author) → same_author a b ≡ true → a ≡ b
same_author-one a b same =
    let parts = and_parts (bytes_eq a.name b.name) (a.origin == b.origin) same in
    ap₂ (λ name origin. let it : Author = record { name = name; origin = origin } in it)
    ((bytes_eq-Decides a.name b.name).0 parts.0) (eqb-true a.origin b.origin parts.1)

-- authors that differ fail the test
pub same_author-apart : (a b : Author) → a ≢ b → same_author a b ≡ false
same_author-apart a b apart = false_from_ne_true (same_author a b) (λ same. apart (same_author-one a b same))

-- a table that got an author has what it had
pub grown : (old new : List Author) (a : Author) → (new ≡ old) ⊎ (new ≡ old ++ a ∷ []) → (length old ≤ length new)
    × ((i : ℕ) → i < length old → author_in new i ≡ author_in old i)
grown old new a (inl e) = rw e (omega arith, λ i h. refl)
grown old new a (inr e) = rw e (
  omega (arith, length-append old (a ∷ [])),
  λ i h. get_or_append_left old (a ∷ [])
      (record { name = []; origin = 0 }) i h,
)

-- so the characters keep their authors
pub same_authors : (old new : List Author) (ps : List ℕ) →
    ((i : ℕ) → i < length old → author_in new i ≡ author_in old i)
    → AllByRecursion (λ p. p < length old) ps → map (author_in new) ps ≡ map (author_in old) ps
same_authors old new [] same known = refl
same_authors old new (p ∷ ps) same known = ap₂ (λ (x : Author) xs. x ∷ xs) (same p known.0)
    (same_authors old new ps same known.1)

-- and the room its author
pub same_spare : (old new : List Author) (room : ℕ) (spare : Option KeptSpare) →
    ((i : ℕ) → i < length old → author_in new i ≡ author_in old i)
    → HasRoom (length old) room spare → spare_in new spare ≡ spare_in old spare
same_spare old new room None same has = refl
same_spare old new room (Some spare) same has =
    ap (λ who. let it : Spare = record { author = who; left = spare.left } in Some it) (same spare.author has.0)
