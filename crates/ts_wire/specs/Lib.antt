pub mod Proposal
pub mod Fault
