pub mod Sessions
pub mod Answers
pub mod Events
pub mod Continuing
pub mod Phases
pub mod Beginning
pub mod Cases
pub mod Bounds
