pub mod Each
pub mod All
pub mod Rows
pub mod Pad
pub mod Masks
pub mod Tabulate
