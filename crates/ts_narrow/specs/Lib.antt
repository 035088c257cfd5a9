pub mod Allowed
pub mod Meets
pub mod Narrowing
pub mod Answered
pub mod IsNarrowing
pub mod inner
