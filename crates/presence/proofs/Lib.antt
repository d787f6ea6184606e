-- The lemmas, by topic.
pub mod Authors
pub mod Visits
