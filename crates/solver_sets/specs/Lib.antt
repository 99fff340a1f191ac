pub mod Sets
pub mod Table
pub mod Definition6
pub mod Claims
