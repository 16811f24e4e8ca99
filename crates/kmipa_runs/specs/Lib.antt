pub mod Dates
pub mod Inputs
pub mod Knowing
pub mod Lines
pub mod Notes
pub mod Sealing
pub mod Shown
