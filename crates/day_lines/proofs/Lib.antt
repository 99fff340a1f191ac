pub mod Spacing
pub mod Joining
