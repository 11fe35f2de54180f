pub mod StreamLemmas
pub mod CaptureLemmas
