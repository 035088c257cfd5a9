-- What is kept inside. No public clause cites this.
pub mod Hulls
pub mod Under
