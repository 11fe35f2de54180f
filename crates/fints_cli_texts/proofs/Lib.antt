pub mod JudgeLemmas
pub mod LawLemmas
pub mod MaskLemmas
pub mod ShowLemmas
pub mod ShowMessageLemmas
pub mod AuditLemmas
pub mod Endings
