-- The lemmas, by topic.
pub mod At
pub mod Changes
pub mod Cuts
pub mod Fewest
pub mod Known
pub mod Puts
pub mod Takes
