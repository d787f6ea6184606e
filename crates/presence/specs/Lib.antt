-- The definitions that the contracts cite, by topic.
pub mod AuthorPlaces
pub mod Authors
pub mod Inside
pub mod Presence
