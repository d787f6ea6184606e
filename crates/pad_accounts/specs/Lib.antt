-- The definitions that the contracts cite, by topic.
pub mod Added
pub mod Checked
pub mod CommandLine
pub mod Lines
pub mod Links
pub mod Listed
pub mod Modes
pub mod Names
pub mod Origins
pub mod Persons
pub mod Removed
pub mod Status
pub mod Tokens
