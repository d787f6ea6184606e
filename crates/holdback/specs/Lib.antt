-- The definitions that the contracts cite, by topic.
pub mod Held
pub mod Inside
pub mod Laws
pub mod Next
pub mod Offered
