-- The definitions that the contracts cite, by topic.
pub mod Fits
pub mod Found
pub mod Index
pub mod Inside
pub mod Items
pub mod Kept
pub mod Log
pub mod Made
pub mod Makers
pub mod Number
pub mod Packed
pub mod Page
pub mod Read
pub mod Shelf
pub mod Store
pub mod Times
pub mod Track
