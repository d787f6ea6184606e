-- The lemmas, by topic.
pub mod Order
pub mod CallerLemmas
pub mod Count
pub mod Cut
pub mod Kept
pub mod Nearest
pub mod Sound
