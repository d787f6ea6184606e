-- The lemmas, by topic.
pub mod Crashes
pub mod Events
pub mod Files
pub mod Holding
pub mod Promotion
pub mod Reaching
