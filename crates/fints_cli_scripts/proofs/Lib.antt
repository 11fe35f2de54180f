pub mod CaseLemmas
pub mod CertifyLemmas
pub mod Refusals
pub mod ReportLemmas
pub mod StepLemmas
pub mod RunLemmas
pub mod Endings
pub mod HandedIn
