pub mod Fault
pub mod Rule
pub mod Text
pub mod Trees
pub mod inner
