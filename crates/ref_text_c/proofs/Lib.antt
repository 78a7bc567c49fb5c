pub mod TextLemmas
mod TextExamples
