pub mod CutLists
pub mod CutPoints
pub mod Framed
pub mod Loops
pub mod Regions
