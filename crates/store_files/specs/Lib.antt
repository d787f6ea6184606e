-- The definitions that the contracts cite, by topic.
pub mod Ownership
pub mod Noting
pub mod OpenFiles
pub mod Settling
