-- The status of a program that ends early.
use Rattle.std.specs.Prelude.{ℕ}
use Rattle.pad_accounts.specs.declared.failure.AccountsFailure.{AccountsFailure}
use Rattle.pad_accounts.specs.declared.failure.AccountsFailure.TheVariants.{EmptyList, WrongFile, WrongName, NoAuthor, OnlyHash, WouldBeWrong, WrongPerson, NoPerson}

-- 2 if a name, a list or the accounts file is wrong, otherwise 1
abbrev pub status : AccountsFailure → ℕ
status (EmptyList path) = 2
status (WrongFile path line mistake) = 2
status (WrongName wrong) = 2
status (NoAuthor path name) = 2
status (OnlyHash path name) = 2
status (WouldBeWrong mistake) = 2
status (WrongPerson mistake) = 2
status NoPerson = 2
status other = 1
