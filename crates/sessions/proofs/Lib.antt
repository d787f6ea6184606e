-- The lemmas, by topic.
pub mod Lines
pub mod OneAuthor
pub mod Tokens
pub mod UserNames
