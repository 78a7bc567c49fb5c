pub mod Common
pub mod HeapSteps
pub mod OneQueueHands
pub mod ReachedCores
pub mod AskedRows
pub mod Refusals
pub mod HandRows
pub mod InsideHeaps
pub mod HandedNotices
pub mod BatchWorlds
pub mod QueueRows
pub mod SoundCores
pub mod HandSteps
pub mod QueueSteps
pub mod FirstCores
pub mod RunLemmas
pub mod HeadlineLemmas
mod InsideExamples
