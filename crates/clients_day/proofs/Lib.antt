pub mod Holding
pub mod Processing
pub mod Running
