pub mod Hulls
pub mod Nodes
