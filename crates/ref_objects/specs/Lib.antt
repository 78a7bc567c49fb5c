pub mod Grounds
pub mod GroundViews
