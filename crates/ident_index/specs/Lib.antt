-- The definitions that the contracts cite, by topic.
pub mod Index
pub mod View
