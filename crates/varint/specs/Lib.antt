pub mod Varint
pub mod Claims
