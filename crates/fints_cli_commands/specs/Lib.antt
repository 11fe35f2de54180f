pub mod BuiltIn
pub mod Loading
pub mod Loaded
pub mod Notes
pub mod Commands
pub mod FailureText
