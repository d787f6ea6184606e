-- The definitions that the contracts cite, by topic.
pub mod Words
pub mod Forms
pub mod Operations
pub mod Replies
pub mod Reading
pub mod Requests
pub mod Lines
pub mod Peers
pub mod Guests
pub mod Laws
