-- Why a text is not taken as an accounts file.
use Rattle.std.specs.Prelude.{◌≡◌, ℕ, List, Err}
use Rattle.sessions.specs.Accounts.{accounts_of}
use Rattle.sessions.specs.declared.accounts.AccountsError.TheVariants.{BadLine}
use Rattle.pad_accounts.specs.declared.failure.AccountsFailure.{AccountsFailure}
use Rattle.pad_accounts.specs.declared.failure.AccountsFailure.TheVariants.{WrongFile, Memory}

-- a failure names the first line that a server refuses and its mistake, or says that memory ran out
abbrev pub Refuses : List ℕ → AccountsFailure → Type 0
Refuses text (WrongFile path line mistake) = accounts_of text ≡ Err (BadLine line mistake)
Refuses text Memory = Unit {0}
Refuses text other = ⊥
