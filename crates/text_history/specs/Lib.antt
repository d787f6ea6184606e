-- The definitions that the contracts cite, by topic.
pub mod Slide
pub mod Slides
