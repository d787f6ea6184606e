-- The lemmas, by topic.
pub mod Cells
pub mod Entries
pub mod Labels
pub mod Parts
