pub mod ChainLemmas
pub mod EachLemmas
pub mod LineLemmas
