pub mod Bits
pub mod Ends
pub mod Held
pub mod Missed
pub mod RowCount
pub mod Rows
