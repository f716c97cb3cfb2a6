pub mod Comparing
pub mod Running
pub mod Verdicts
