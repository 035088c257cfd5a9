pub mod Span
pub mod Table
pub mod Spelling
