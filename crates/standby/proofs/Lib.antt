-- The lemmas, by topic.
pub mod Puts
