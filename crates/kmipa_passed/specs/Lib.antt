pub mod Attributes
pub mod Identifiers
pub mod Leaving
pub mod Names
pub mod Passed
pub mod Sorts
