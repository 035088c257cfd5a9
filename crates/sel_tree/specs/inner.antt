-- What the trees of an index say of its list.
pub mod Trees
