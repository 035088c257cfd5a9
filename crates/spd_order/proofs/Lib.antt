pub mod MayEdit
pub mod Entries
pub mod Policies
pub mod Previews
pub mod Repeats
