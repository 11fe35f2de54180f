pub mod WrittenSteps
pub mod Fronts
pub mod Flats
