-- Proofs that keys may be compared and hashed.
pub mod Keys
