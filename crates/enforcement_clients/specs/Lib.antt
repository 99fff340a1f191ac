pub mod ClientCalls
pub mod Functions
pub mod Published
pub mod Claims
