pub mod Places
pub mod Claims
