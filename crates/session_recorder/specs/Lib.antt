pub mod Recorded
pub mod Openings
