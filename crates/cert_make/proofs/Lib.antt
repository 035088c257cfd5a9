mod Cuts
mod Decides
mod Gathering
pub mod ReadsBack
mod Searches
mod Smaller
mod Steps
pub mod Trees
mod Validity
mod Writable
