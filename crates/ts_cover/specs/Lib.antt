pub mod Covered
pub mod Pairs
pub mod RealParts
pub mod Writing
