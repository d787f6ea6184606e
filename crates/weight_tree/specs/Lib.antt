-- The definitions that the contracts cite, by topic.
pub mod Balance
pub mod Find
pub mod ItemsAndHeight
pub mod Rank
pub mod Sides
pub mod Tree
pub mod Waiting
