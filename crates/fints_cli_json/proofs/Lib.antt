pub mod ObjectLemmas
pub mod ReportedLemmas
