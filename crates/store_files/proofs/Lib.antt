-- The lemmas, by topic.
pub mod Noted
