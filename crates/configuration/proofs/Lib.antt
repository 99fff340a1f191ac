pub mod Rising
pub mod Facts
pub mod Counts
