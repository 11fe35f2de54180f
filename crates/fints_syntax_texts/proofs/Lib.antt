pub mod NextLines
pub mod Prefixes
pub mod ReadLines
pub mod DocumentLemmas
