-- The definitions that the contracts cite, by topic.
pub mod Choices
pub mod CommandLine
pub mod Marks
pub mod Modes
pub mod Moments
pub mod Partings
pub mod Reading
