pub mod Statements
pub mod Obeyed
pub mod Written
