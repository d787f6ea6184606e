-- The lemmas, by topic.
pub mod Begins
pub mod Crashes
pub mod Feeds
pub mod Frames
pub mod Fronts
pub mod Names
pub mod Pieces
pub mod Texts
pub mod Writings
