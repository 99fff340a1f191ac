pub mod Passing
pub mod Signals
pub mod Transfers
