-- What a removal comes to.
use Rattle.std.specs.Prelude.{◌≡◌, ℕ, List, Ok}
use Rattle.sessions.specs.Accounts.{Accounts, accounts_of}
use Rattle.pad_accounts.specs.Lines.{raw_lines, without}
use Rattle.pad_accounts.specs.declared.lines.Taken.TheVariants.{AllLines}

-- a text is an accounts file
abbrev pub IsTaken : List ℕ → Type 0
IsTaken text = (accounts : Accounts) × (accounts_of text ≡ Ok accounts)

-- what is left is the text without the lines of an author, byte for byte, and an accounts file
pub record Removes (text name left : List ℕ) : Type 0 where
  pub text_after : left ≡ without AllLines name (raw_lines text)
  pub taken : IsTaken left
