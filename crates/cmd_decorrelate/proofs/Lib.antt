pub mod Decorrelated
pub mod Stages
pub mod Views
