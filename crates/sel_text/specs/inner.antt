-- What the steps of the readers give. No public clause cites these.
pub mod Reading
