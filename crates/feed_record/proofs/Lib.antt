pub mod Laws
pub mod Ring
pub mod Worded
pub mod Telling
