pub mod Recorded
pub mod Answered
pub mod Sides
pub mod Steps
pub mod Faults
pub mod Laws
pub mod Turning
pub mod Parting
