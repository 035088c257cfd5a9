pub mod Check
pub mod Headline
