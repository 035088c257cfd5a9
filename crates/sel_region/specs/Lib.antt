pub mod Cutting
pub mod Interval
pub mod Pair
pub mod Region
pub mod laws
