pub mod Worded
pub mod Turns
pub mod Arena
pub mod Small
pub mod Answers
pub mod Agreement
