-- The lemmas, by topic.
pub mod Courses
pub mod Fronts
pub mod Pieces
pub mod Responses
pub mod Roles
pub mod Steps
pub mod PageRequests
pub mod Tags
