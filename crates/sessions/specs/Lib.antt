-- The definitions that the contracts cite, by topic.
pub mod Accounts
pub mod AccountsFile
pub mod Inside
pub mod People
pub mod Said
pub mod Secrets
pub mod Session
pub mod Tokens
pub mod UserLaws
pub mod UserNames
pub mod Users
