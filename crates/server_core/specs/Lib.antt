-- The definitions that the contracts cite, by topic.
pub mod Actor
pub mod AtCell
pub mod Listing
pub mod LogIns
pub mod Machine
pub mod Names
pub mod Opening
pub mod Rooms
pub mod Served
pub mod Steps
