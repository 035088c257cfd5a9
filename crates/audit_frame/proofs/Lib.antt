pub mod Done
pub mod Further
pub mod Lines
pub mod Onward
pub mod Runs
