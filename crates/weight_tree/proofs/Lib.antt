-- The lemmas, by topic.
pub mod Around
pub mod AtBranch
pub mod CallerLemmas
pub mod Counts
pub mod Falls
pub mod Height
pub mod Waits
