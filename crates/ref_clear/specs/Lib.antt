pub mod ClearHeaps
pub mod ClearCalls
pub mod Standing
pub mod ClearRows
pub mod ClearViews
