-- The definitions that the contracts cite, by topic.
pub mod Answered
pub mod Delays
pub mod Laws
pub mod Messages
pub mod Newcomers
pub mod Party
pub mod Transfers
pub mod Turns
pub mod Users
pub mod Waits
