-- The definitions that the contracts cite, by topic.
pub mod Past
pub mod World
pub mod Holds
pub mod Laws
