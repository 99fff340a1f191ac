pub mod Arrivals
pub mod Emitting
pub mod Steps
pub mod Overflows
pub mod Tabled
