pub mod Spans
pub mod Rows
pub mod Ranges
pub mod Spelled
