pub mod Common
pub mod WriteLemmas
mod FaultExamples
