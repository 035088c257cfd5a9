pub mod Audited
pub mod Certificates
pub mod Stages
pub mod Told
