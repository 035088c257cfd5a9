-- Words of the checker's own steps. No public clause cites these.
pub mod Scan
pub mod Steps
