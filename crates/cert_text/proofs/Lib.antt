pub mod ReadBack
pub mod Trees
