pub mod Agrees
mod Feeds
pub mod Forms
mod Scans
mod Sides
pub mod Verdicts
