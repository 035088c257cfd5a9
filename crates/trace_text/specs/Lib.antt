pub mod Event
pub mod Fault
pub mod Fields
pub mod Trace
pub mod Words
pub mod Written
pub mod inner
