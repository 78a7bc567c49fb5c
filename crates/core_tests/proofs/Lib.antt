mod SmallGraphs
mod ClosedLemmas
mod ClosedExamples
mod HealingCalls
