pub mod Streams
pub mod Reads
pub mod ExitStatuses
