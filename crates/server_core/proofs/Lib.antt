-- The lemmas, by topic.
pub mod Lengths
pub mod Listings
pub mod LogIns
pub mod NameRuns
pub mod NameSteps
pub mod Named
pub mod Own
pub mod Places
pub mod Rows
pub mod Served
pub mod Visits
