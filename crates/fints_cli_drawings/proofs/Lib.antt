pub mod DrawLemmas
pub mod EdgeLemmas
pub mod OpenerLemmas
pub mod FoundLemmas
pub mod StepTexts
