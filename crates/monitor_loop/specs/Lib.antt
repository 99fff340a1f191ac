pub mod Lending
pub mod Quiet
