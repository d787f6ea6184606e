-- The definitions that the contracts cite, by topic.
pub mod Codes
pub mod Families
pub mod Kept
pub mod Metrics
pub mod Requests
pub mod Responses
pub mod Samples
pub mod Times
