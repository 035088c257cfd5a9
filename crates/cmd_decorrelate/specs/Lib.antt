pub mod Decorrelate
pub mod Headline
