-- What steps of the reader give. No public clause cites these.
pub mod Reading
