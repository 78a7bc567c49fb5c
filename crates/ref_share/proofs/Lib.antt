pub mod Common
pub mod Seats
pub mod Polls
pub mod HeapAnswers
pub mod Places
pub mod ReleasedRest
pub mod SeatLists
pub mod QueueRuns
pub mod HandedNotices
pub mod HeldRuns
pub mod HeapRuns
pub mod HeapReplays
pub mod ClearedRuns
pub mod LeavingRuns
pub mod NamedRuns
pub mod HeapRows
pub mod ScannedRuns
pub mod ProvenRuns
pub mod MarkedRuns
pub mod OrderRuns
pub mod WorkerRuns
pub mod CycleRuns
pub mod Collections
pub mod OnceCleared
pub mod OnceRuns
pub mod CleanCalls
pub mod JobsLeft
pub mod CleanRounds
pub mod CleanRuns
pub mod SlotRuns
pub mod TargetRuns
pub mod ApartRuns
pub mod ApartRounds
pub mod KeptRuns
pub mod RegisterRuns
pub mod RegisteredSeats
pub mod Crossing
mod HeapExamples
mod QueueCallExamples
mod DeliveryExamples
mod CountedCycles
mod CycleExamples
mod UserExamples
mod CleanerExamples
mod ApartExamples
