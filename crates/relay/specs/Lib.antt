-- The definitions that the contracts cite, by topic.
pub mod Wire
pub mod Counts
pub mod Round
pub mod Breaks
pub mod Kept
pub mod Listed
pub mod Chosen
pub mod Laws
