pub mod Stages
pub mod Step
