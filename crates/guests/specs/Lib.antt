-- The definitions that the contracts cite.
pub mod Book
pub mod Guests
pub mod Laws
