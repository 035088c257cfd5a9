pub mod Change
pub mod Edits
pub mod Fault
pub mod Names
pub mod inner
