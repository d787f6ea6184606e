-- The status of a program that does not start, or ends early.
use Rattle.std.specs.Prelude.{ℕ}
use Rattle.accounts_file.specs.declared.accounts_error.AccountsFileError.TheVariants.{BadLine}
use Rattle.store_files.specs.declared.store_error.StoreError.TheVariants.{OtherReplica, UsedReplica}
use Rattle.tcp_server.specs.declared.serving_error.ServingError.TheVariants.{Accounts as ServingAccounts, Store}
use Rattle.pad_server.specs.declared.failure.ServerFailure.{ServerFailure}
use Rattle.pad_server.specs.declared.failure.ServerFailure.TheVariants.{Accounts, Serving}

-- 2 after an invalid line of the accounts file, for the store of another server and for a number that is not new,
-- otherwise 1
abbrev pub status : ServerFailure → ℕ
status (Accounts (BadLine path line mistake)) = 2
status (Serving (ServingAccounts (BadLine path line mistake))) = 2
status (Serving (Store (OtherReplica folder replica))) = 2
status (Serving (Store (UsedReplica folder number))) = 2
status other = 1
