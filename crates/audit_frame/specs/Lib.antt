pub mod Answer
pub mod Causes
pub mod Ends
pub mod Further
pub mod Loading
pub mod Runs
pub mod Words
