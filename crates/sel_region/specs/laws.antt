-- Proofs that each kind of region meets the laws of `IsRegion`.
pub mod RegionLemmas
pub mod IntervalLaws
pub mod PairLaws
pub mod HullLaws
