pub mod Answers
pub mod Claims
pub mod Turns
