-- The lemmas, by topic.
pub mod Kept
pub mod Members
pub mod Next
pub mod Places
