-- What follows from the definition of the first box that meets another.
pub mod FirstMetLaws
