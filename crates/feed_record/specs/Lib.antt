pub mod Serials
pub mod Records
pub mod Claims
