pub mod Game
pub mod Arena
pub mod Claims
