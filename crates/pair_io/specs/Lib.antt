pub mod Counts
pub mod Gains
pub mod Reading
pub mod Loading
pub mod MemFiles
pub mod MemSink
pub mod Real
