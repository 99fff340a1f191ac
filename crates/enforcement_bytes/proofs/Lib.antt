pub mod ByteCalls
pub mod ClientByteCalls
