pub mod Audits
pub mod Lines
pub mod Checks
pub mod Owners
pub mod Ways
