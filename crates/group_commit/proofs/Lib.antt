-- The lemmas, by topic.
pub mod Appends
pub mod Listed
