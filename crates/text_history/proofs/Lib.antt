-- The lemmas, by topic.
pub mod Carrying
pub mod Slides
