pub mod Gains
mod Prefixes
mod Faults
