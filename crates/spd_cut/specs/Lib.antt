pub mod Entries
pub mod Fault
pub mod Group
pub mod Limit
pub mod StandsFor
pub mod Steps
pub mod inner
