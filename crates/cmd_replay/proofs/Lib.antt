pub mod Headline
pub mod Stages
pub mod Steps
