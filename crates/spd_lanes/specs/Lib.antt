pub mod Faults
pub mod Lane
pub mod Machine
pub mod Policy
pub mod Run
pub mod inner
