pub mod Instances
pub mod Obeyed
pub mod Written
