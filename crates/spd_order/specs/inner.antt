-- What a policy keeps inside. No public clause cites this.
pub mod Kept
pub mod Edited
