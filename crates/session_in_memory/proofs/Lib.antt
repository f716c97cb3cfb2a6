pub mod Blank
pub mod Stopping
