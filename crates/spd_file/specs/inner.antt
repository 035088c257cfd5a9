-- What the parts of the readers give. No public clause cites these.
pub mod Borrowed
pub mod ReadParts
