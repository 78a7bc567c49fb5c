pub mod Crossing
