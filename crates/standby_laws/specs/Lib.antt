-- The definitions that the contracts cite, by topic.
pub mod Servers
pub mod Laws
