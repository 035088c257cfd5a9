pub mod IsIndexOf
pub mod inner
