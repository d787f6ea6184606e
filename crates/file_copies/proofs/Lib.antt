-- The lemmas, by topic.
pub mod Copies
pub mod Logs
pub mod Rounds
pub mod Stretches
