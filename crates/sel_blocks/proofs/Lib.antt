pub mod Hulls
pub mod Joins
