pub mod Reading
pub mod Counting
pub mod OfRequest
pub mod Refusing
pub mod Notes
