pub mod Command
pub mod ErrorLine
pub mod Outcome
pub mod Reports
