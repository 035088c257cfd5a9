-- How meets are found, and how it is found whether something is left.
pub mod Listed
pub mod Rests
