-- The definitions that the contracts cite, by topic.
pub mod Course
pub mod Fields
pub mod Front
pub mod Kept
pub mod Laws
pub mod Messages
pub mod Socket
pub mod PageRequests
pub mod Tags
pub mod Users
