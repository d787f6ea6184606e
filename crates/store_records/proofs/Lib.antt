-- The lemmas, by topic.
pub mod Acts
pub mod Deliveries
pub mod Fronts
pub mod Idle
pub mod Introductions
pub mod Leading
pub mod Numbers
pub mod Replays
pub mod Steps
