pub mod Cached
pub mod Key
pub mod KeyOf
pub mod inner
pub mod laws
