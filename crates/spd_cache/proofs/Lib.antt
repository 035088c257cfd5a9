pub mod Hits
pub mod Kept
pub mod Named
pub mod Under
pub mod Widened
