pub mod Step
pub mod Fronts
pub mod Claims
