pub mod Losses
pub mod Untold
