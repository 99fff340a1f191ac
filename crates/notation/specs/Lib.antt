pub mod Outcomes
pub mod Tokens
pub mod Words
pub mod Packing
pub mod Items
pub mod Results
pub mod Claims
