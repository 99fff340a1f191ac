pub mod Store
pub mod Calls
pub mod Moments
pub mod Strategy
pub mod Places
pub mod Claims
pub mod Answers
pub mod Published
