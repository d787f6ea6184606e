-- The definitions that the contracts cite, by topic.
pub mod Gates
pub mod LockedPad
pub mod Seats
