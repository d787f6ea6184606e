-- The lemmas, by topic.
pub mod Calls
pub mod Grows
pub mod Named
pub mod Seated
pub mod Tallies
