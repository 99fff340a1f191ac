pub mod Scanning
pub mod Agreeing
