-- The authors of a text, one for each visible character.
use Rattle.std.specs.Prelude.{ℕ, ◌+◌, ◌-◌, if◌then◌else◌, List, ◌++◌, take, drop, replicate, Option, Some, None}
use Rattle.pad_model.specs.Visible.{same_author}
use Rattle.pad_model.specs.declared.who.Author.{Author}

-- an author, and how many of their next insertions have room
pub record Spare : Type 0 where
  pub author : Author
  pub left : ℕ

-- the author of each character, and the room that was reserved, if any
pub record Authored : Type 0 where
  pub authors : List Author
  pub spare : Option Spare

-- how many insertions of an author have room
abbrev pub left_for : Author → Option Spare → ℕ
left_for author None = 0
left_for author (Some spare) = if same_author spare.author author then spare.left else 0

-- the authors with n characters of one author put in at a place
abbrev pub put_in : ℕ → Author → ℕ → List Author → List Author
put_in pos author n authors = take pos authors ++ replicate n author ++ drop pos authors

-- the authors without the n at a place
abbrev pub taken_out : ℕ → ℕ → List Author → List Author
taken_out pos n authors = take pos authors ++ drop (pos + n) authors

-- what an insertion leaves: its author has room for one less, and no other author has any
abbrev pub inserted : Authored → ℕ → Author → ℕ → Authored
inserted old pos author n =
    record {
      authors = put_in pos author n old.authors;
      spare = Some (record { author = author; left = left_for author old.spare - 1 });
    }

-- what an insertion leaves that uses up room
abbrev pub used : Authored → ℕ → Spare → ℕ → Authored
used old pos spare n = record {
  authors = put_in pos spare.author n old.authors;
  spare = Some (record spare { left = spare.left - 1 });
}

-- what a reservation leaves
abbrev pub reserved : Authored → Author → ℕ → Authored
reserved old author n = record old { spare = Some (record { author = author; left = n }) }

-- what a deletion leaves
abbrev pub deleted : Authored → ℕ → ℕ → Authored
deleted old pos n = record old { authors = taken_out pos n old.authors }
