-- The lemmas, by topic.
pub mod Moments
pub mod Partings
pub mod Readings
