pub mod Outcomes
pub mod Cases
