pub mod NumberLemmas
pub mod QueueLemmas
pub mod BatchLemmas
pub mod TableLemmas
pub mod Examples
mod BatchExamples
