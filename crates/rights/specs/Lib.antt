-- The definitions that the contracts cite, by topic.
pub mod Laws
pub mod Rights
