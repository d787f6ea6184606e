-- The definitions that the contracts cite, by topic.
pub mod Confirmations
pub mod Notes
pub mod Rounds
