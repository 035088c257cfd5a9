pub mod Number
pub mod Selector
pub mod Piece
pub mod Payload
pub mod Reading
pub mod Fault
