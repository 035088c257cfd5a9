pub mod Certificate
pub mod Grammar
pub mod NodeText
pub mod Rows
pub mod Split
pub mod Tree
pub mod Valid
