-- What is kept inside. No public clause cites this.
pub mod Cuts
pub mod Kept
