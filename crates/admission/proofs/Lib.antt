-- The lemmas, by topic.
mod Puts
