-- The definitions that the contracts cite, by topic.
pub mod Copies
pub mod Laws
pub mod Requests
pub mod Rounds
pub mod Stretches
