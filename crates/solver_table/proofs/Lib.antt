pub mod Filling
pub mod Levels
