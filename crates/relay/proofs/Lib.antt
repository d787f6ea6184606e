-- The lemmas, by topic.
pub mod Grown
pub mod Steps
pub mod Pulls
pub mod Pushes
pub mod Rounds
pub mod Images
pub mod Places
pub mod Turns
