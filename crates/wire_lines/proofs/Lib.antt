-- The lemmas, by topic.
pub mod Bytes
pub mod Counts
pub mod Feeds
pub mod InOrder
pub mod Taken
pub mod Written
