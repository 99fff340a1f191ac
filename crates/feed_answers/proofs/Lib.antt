pub mod Entering
pub mod Worded
