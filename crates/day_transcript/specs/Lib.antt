pub mod Transcript
pub mod Pieces
pub mod Claims
