pub mod CompleteLemmas
pub mod ReportLemmas
