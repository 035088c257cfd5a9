pub mod Numbers
pub mod Pieces
pub mod Selectors
pub mod Payloads
pub mod Written
pub mod Loops
pub mod Joined
