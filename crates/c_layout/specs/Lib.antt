pub mod Offsets
pub mod Layout
pub mod Answers
pub mod Calls
pub mod Claims
