-- The lemmas.
pub mod Made
