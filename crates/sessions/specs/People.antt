-- Persons: the names that are shown for them, and the IDs by which a proxy knows them.
use Rattle.std.specs.Prelude.{ℕ, nat_le, if◌then◌else◌, List, [], length, codes, bytes_eq, Option, is_some, Result, Ok, Err}
use Rattle.std.specs.Map.{lookup}
use Rattle.indexmap.specs.IndexMap.{insert_entry}
use Rattle.sessions.specs.declared.people.TheConstants.{MAX_PEOPLE}
use Rattle.sessions.specs.declared.mistake.Mistake.{Mistake}
use Rattle.sessions.specs.declared.mistake.Mistake.TheVariants.{PersonTwice, IdTwice, TooManyPeople}

-- the display name of each name, and the name of each ID, in the order of their lines
pub record People : Type 0 where
  pub displays : List (List ℕ × List ℕ)
  pub names : List (List ℕ × List ℕ)

-- there are no persons
abbrev pub no_people : People
no_people = record { displays = []; names = [] }

-- the display name of a name, if any
abbrev pub display_of : List ℕ → People → Option (List ℕ)
display_of name p = lookup (bytes_eq name) p.displays

-- the name of the person with an ID, if any
abbrev pub author_of : List ℕ → People → Option (List ℕ)
author_of id p = lookup (bytes_eq id) p.names

-- the names by ID with one more; the ID - says that there is none
abbrev pub with_id : List (List ℕ × List ℕ) → List ℕ → List ℕ → List (List ℕ × List ℕ)
with_id names id name = if bytes_eq id (codes "-") then names else insert_entry bytes_eq names id name

-- the persons with one more, or what is wrong with it: its name and its ID have to be new, and it within the limit
abbrev pub with_person : List ℕ → List ℕ → List ℕ → People → Result People Mistake
with_person name id display p =
    if nat_le MAX_PEOPLE (length p.displays) then Err TooManyPeople
    else if is_some (display_of name p) then Err PersonTwice
    else if is_some (author_of id p) then Err IdTwice
    else Ok (record {
      displays = insert_entry bytes_eq p.displays name display;
      names = with_id p.names id name;
    })
