pub mod Answered
pub mod Keyed
pub mod Linked
pub mod Looks
