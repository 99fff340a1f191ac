pub mod Unpacking
pub mod Measures
pub mod Claims
