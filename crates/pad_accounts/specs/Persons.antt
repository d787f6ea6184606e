-- What it comes to that somebody is introduced.
use Rattle.std.specs.Prelude.{◌≡◌, ℕ, List, [], ◌∷◌, ◌++◌, codes, Ok, Some}
use Rattle.sessions.specs.Accounts.{Accounts, accounts_of}
use Rattle.sessions.specs.People.{display_of}
use Rattle.pad_accounts.specs.Lines.{line_end, raw_lines, without}
use Rattle.pad_accounts.specs.declared.lines.Taken.TheVariants.{PersonLine}

-- a text with the line of a person behind it, and before it the line feed that it lacks
abbrev pub with_person : List ℕ → List ℕ → List ℕ → List ℕ → List ℕ
with_person text name id display =
    text ++ line_end text ++ codes "person " ++ name ++ codes " " ++ id ++ codes " " ++ display ++ (10 ∷ [])

-- a text is an accounts file, by which a name has a display name
abbrev pub ShowsAs : List ℕ → List ℕ → List ℕ → Type 0
ShowsAs text name display =
    (accounts : Accounts) × ((accounts_of text ≡ Ok accounts) × (display_of name accounts.people ≡ Some display))

-- the new text is the old one without the line of that person, byte for byte, with a new one behind it, by which the
-- name has the display name
pub record Introduces (text name id display more : List ℕ) : Type 0 where
  pub text_after : more ≡ with_person (without PersonLine name (raw_lines text)) name id display
  pub shown : ShowsAs more name display
