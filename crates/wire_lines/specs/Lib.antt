-- The definitions that the contracts cite, by topic.
pub mod Buffer
pub mod Bytes
pub mod Causes
pub mod Device
pub mod Devices
pub mod Errors
pub mod Faults
pub mod Inside
pub mod Lines
pub mod Reader
pub mod Served
pub mod Splitter
