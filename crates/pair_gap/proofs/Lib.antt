pub mod LeastPackets
pub mod LeastGaps
pub mod Standing
pub mod Differing
pub mod Passed
pub mod Alike
