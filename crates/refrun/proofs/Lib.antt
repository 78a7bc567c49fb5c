pub mod Common
mod IllegalRows
pub mod JobLemmas
pub mod TraceLemmas
pub mod ListChecks
pub mod NoEvidence
pub mod Reports
pub mod SeatLists
pub mod Crossing
mod ScriptExamples
mod JobExamples
