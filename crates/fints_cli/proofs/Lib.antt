pub mod CutAnswers
pub mod Faults
pub mod Writes
pub mod Refusals
