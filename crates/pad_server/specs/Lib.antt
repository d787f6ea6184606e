-- The definitions that the contracts cite, by topic.
pub mod Asking
pub mod CommandLine
pub mod Confirming
pub mod Modes
pub mod Origins
pub mod Status
pub mod Users
