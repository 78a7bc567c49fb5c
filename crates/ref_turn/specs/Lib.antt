pub mod History
pub mod Rule
pub mod Steps
pub mod Seats
pub mod Turns
