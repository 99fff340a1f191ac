pub mod Refusals
pub mod Accepted
pub mod Agreeing
pub mod Worded
pub mod Turns
pub mod Eventwise
pub mod Bounded
