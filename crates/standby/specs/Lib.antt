-- The definitions that the contracts cite, by topic.
pub mod Entrance
pub mod Refusals
pub mod Rounds
