-- How a list of authors is kept: as runs of places in a table of authors.
use Rattle.std.specs.Prelude.{◌≡◌, ◌≢◌, ℕ, ◌*◌, ◌^◌, ◌≤◌, ◌<◌, List, [], ◌∷◌, length, map, replicate, flat_map}
use Rattle.std.specs.Prelude.{sum_by, slice_index_or, Option, Some, None}
use Rattle.std.specs.List.{AllByRecursion}
use Rattle.pad_model.specs.declared.who.Author.{Author}
use Rattle.pad_model.specs.declared.who.AuthorRun.{AuthorRun}
use Rattle.authorship.specs.Authors.{Authored, Spare}
use Rattle.authorship.specs.declared.stored_run.StoredRun.{StoredRun}
use Rattle.authorship.specs.declared.stored_run.KeptSpare.{KeptSpare}

-- how many characters runs have
abbrev pub characters : List StoredRun → ℕ
characters runs = sum_by (λ run. run.len) runs

-- the place of each character's author
abbrev pub places : List StoredRun → List ℕ
places runs = flat_map (λ run. replicate run.len run.author) runs

-- the author at a place of a table
abbrev pub author_in : List Author → ℕ → Author
author_in table place = slice_index_or table place (record { name = []; origin = 0 })

-- the author of each character
abbrev pub authors_in : List Author → List StoredRun → List Author
authors_in table runs = map (author_in table) (places runs)

-- the author run that a kept one represents
abbrev pub author_run : List Author → StoredRun → AuthorRun
author_run table run = record { author = author_in table run.author; len = run.len }

-- each run's author is in a table of this length
abbrev pub AreKnown : ℕ → List StoredRun → Type 0
AreKnown authors runs = AllByRecursion (λ run. run.author < authors) runs

-- the room that is kept
abbrev pub spare_in : List Author → Option KeptSpare → Option Spare
spare_in table None = None
spare_in table (Some spare) = Some (record
    { author = author_in table spare.author; left = spare.left })

-- the place of each character's author, and how many more runs there is room for
pub record AuthorPlaces : Type 0 where
  pub places : List ℕ
  pub room : ℕ

-- the places of the authors that runs have, and a place for each spare run
abbrev pub author_places : List StoredRun → List StoredRun → AuthorPlaces
author_places runs spare = record { places = places runs; room = length spare }

-- the authors and the room that are kept
abbrev pub authored : List Author → List ℕ → Option KeptSpare → Authored
authored table ps spare = record {
  authors = map (author_in table) ps;
  spare = spare_in table spare;
}

-- the first run is not of this author
abbrev pub StartsApart : ℕ → List StoredRun → Type 0
StartsApart author [] = Unit {0}
StartsApart author (run ∷ runs) = author ≢ run.author

-- the last run is not of this author
abbrev pub EndsApart : List StoredRun → ℕ → Type 0
EndsApart [] author = Unit {0}
EndsApart (run ∷ []) author = run.author ≢ author
EndsApart (run ∷ next ∷ runs) author = EndsApart (next ∷ runs) author

-- each run has a character, and no two neighbours have one author
abbrev pub IsProper : List StoredRun → Type 0
IsProper [] = Unit {0}
IsProper (run ∷ runs) = (1 ≤ run.len) × StartsApart run.author runs × IsProper runs

-- no author is twice in a table
abbrev pub IsOnce : List Author → Type 0
IsOnce table = (i j : ℕ) → i < length table → j < length table
    → author_in table i ≡ author_in table j → i ≡ j

-- runs of no characters
abbrev pub AreEmpty : List StoredRun → Type 0
AreEmpty runs = AllByRecursion (λ run. run.len ≡ 0) runs

-- the runs are proper and can be counted, and the spare ones are empty
pub record IsRunTree (runs spare : List StoredRun) : Type 0 where
  pub proper : IsProper runs
  pub fits : characters runs < 2 ^ 64
  pub empty : AreEmpty spare

-- each insertion that has room may add two runs, and its author is in the table
abbrev pub HasRoom : ℕ → ℕ → Option KeptSpare → Type 0
HasRoom authors room None = Unit {0}
HasRoom authors room (Some spare) = (spare.author < authors) × (2 * spare.left ≤ room)

-- each author is in the table, which has none twice, and there is the room that was made
pub record IsKept (table : List Author) (kept : AuthorPlaces) (spare : Option KeptSpare) : Type 0
  where
    pub known : AllByRecursion (λ place. place < length table) kept.places
    pub once : IsOnce table
    pub room : HasRoom (length table) kept.room spare
