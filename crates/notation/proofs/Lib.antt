pub mod Outcomes
pub mod Finding
pub mod Values
pub mod Readings
pub mod Checks
pub mod Groups
pub mod Laws
