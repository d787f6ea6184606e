-- The lemmas, by topic.
pub mod Kept
pub mod Loops
pub mod MakerLists
pub mod Marks
pub mod Next
pub mod Names
pub mod Numbers
pub mod Pages
pub mod Places
pub mod Ranges
pub mod RoundTrip
pub mod Shelves
pub mod Stores
pub mod TimeLists
