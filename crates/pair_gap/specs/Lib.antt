pub mod Gap
pub mod LeastPacketOf
pub mod LeastGap
pub mod GapRegions
pub mod inner
