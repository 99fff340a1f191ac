pub mod Solving
pub mod Claims
