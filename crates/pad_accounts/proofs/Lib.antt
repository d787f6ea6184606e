-- The lemmas, by topic.
pub mod FirstLine
pub mod NameSteps
pub mod Steps
