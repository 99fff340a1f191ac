pub mod Pairs
pub mod Product
pub mod Claims
