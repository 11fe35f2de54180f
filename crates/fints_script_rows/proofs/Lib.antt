pub mod NameTests
pub mod Listings
pub mod FirstPlaces
pub mod OneField
pub mod LawLemmas
