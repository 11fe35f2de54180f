pub mod ApartLemmas
pub mod AgainLaws
pub mod NoteLemmas
