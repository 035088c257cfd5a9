pub mod Steps
pub mod Skipped
pub mod MetBoxes
pub mod PairPoints
pub mod Reached
pub mod Written
pub mod CutSides
