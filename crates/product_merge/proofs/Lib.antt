pub mod Records
pub mod Merging
pub mod Cases
pub mod Worded
