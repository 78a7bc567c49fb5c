pub mod Chains
pub mod CycleHeaps
pub mod Standing
pub mod MarkCalls
pub mod MarkRows
pub mod MarkViews
