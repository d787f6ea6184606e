-- The lemmas, by topic.
pub mod Acts
pub mod Carries
pub mod Federated
pub mod Keeps
pub mod Numbers
pub mod Steps
pub mod Typing
pub mod Worlds
