pub mod Emitted
pub mod Obeying
