pub mod FirstMet
pub mod inner
pub mod laws
