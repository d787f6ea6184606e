-- The lemmas, by topic.
pub mod BrowserClients
pub mod BrowserMessages
pub mod Browsing
pub mod KnownEnds
pub mod LineClients
pub mod Places
pub mod Said
pub mod Spoken
pub mod Steps
pub mod Users
