-- The lemmas, by topic.
pub mod Crews
