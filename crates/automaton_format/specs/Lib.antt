pub mod Reading
pub mod Writing
pub mod Opening
pub mod Outcomes
pub mod Claims
