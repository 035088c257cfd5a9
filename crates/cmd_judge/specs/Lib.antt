pub mod Headline
pub mod Judge
pub mod inner
