-- The lemmas, by topic.
pub mod CallerLemmas
pub mod Greater
