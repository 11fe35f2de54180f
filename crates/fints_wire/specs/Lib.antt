pub mod Filling
pub mod Messages
pub mod Lengths
pub mod Choices
pub mod Runs
pub mod Views
pub mod Laws
