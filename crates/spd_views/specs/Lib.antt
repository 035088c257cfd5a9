pub mod EntryText
pub mod Listing
