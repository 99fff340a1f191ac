pub mod Configuration
pub mod Claims
