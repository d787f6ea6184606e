-- The definitions that the contracts cite, by topic.
pub mod Calls
pub mod Connection
pub mod Delivered
pub mod Fuel
pub mod Laws
pub mod Names
pub mod PadTable
pub mod Seating
pub mod Session
pub mod Talk
pub mod ThreadSession
