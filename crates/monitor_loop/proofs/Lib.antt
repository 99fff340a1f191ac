pub mod Taking
pub mod Placing
pub mod Quiet
pub mod Accepting
pub mod Running
pub mod Turning
