pub mod Common
pub mod Logs
pub mod Stays
pub mod Keeps
pub mod Comings
pub mod Runs
pub mod TableStates
mod SeatExamples
