-- Words of the maker's own steps. No public clause cites these.
pub mod PlacedBy
pub mod Sides
pub mod Starts
