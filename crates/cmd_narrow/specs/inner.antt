-- Words of the private functions, which no public clause cites.
pub mod Printable
