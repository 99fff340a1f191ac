pub mod Feed
pub mod Claims
