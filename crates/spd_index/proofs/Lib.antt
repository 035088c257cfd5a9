pub mod Looked
pub mod Parted
pub mod Stands
pub mod Tried
pub mod Verdicts
pub mod WordBits
