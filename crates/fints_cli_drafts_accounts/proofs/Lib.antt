pub mod FillLemmas
pub mod ListLemmas
pub mod OfferLemmas
pub mod OtherLemmas
pub mod StepLemmas
pub mod TextLemmas
