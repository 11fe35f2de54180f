pub mod Streams
pub mod Loading
pub mod Captures
