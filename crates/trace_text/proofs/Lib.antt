pub mod Blamed
pub mod Feeds
pub mod Tables
pub mod Wholes
pub mod Wording
