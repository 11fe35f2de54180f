pub mod ItemTexts
pub mod Elements
pub mod Weights
pub mod Signers
pub mod Figures
pub mod Segments
