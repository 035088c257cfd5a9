pub mod Audit
pub mod Headline
pub mod inner
