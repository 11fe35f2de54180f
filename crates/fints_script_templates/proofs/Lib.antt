pub mod ItemTextLemmas
pub mod Spending
