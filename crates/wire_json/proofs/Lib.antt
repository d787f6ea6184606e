-- The lemmas, by topic.
pub mod Plain
pub mod Fields
pub mod Values
pub mod Items
pub mod Rising
pub mod Again
pub mod OpAgain
pub mod OneLine
pub mod Spelled
