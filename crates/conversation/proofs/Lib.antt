-- The lemmas, by topic.
pub mod Causes
pub mod Conversing
pub mod Courses
pub mod Departures
pub mod Ends
pub mod Lent
pub mod NameBooks
pub mod Rests
pub mod RowListings
pub mod RowScans
pub mod Seatings
pub mod Serving
pub mod Talks
pub mod Turns
