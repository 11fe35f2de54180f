pub mod Segments
pub mod Parts
pub mod Messages
pub mod Read
pub mod Front
pub mod Laws
pub mod FaultText
