pub mod Narrow
pub mod Headline
pub mod inner
