pub mod Parts
pub mod Setups
pub mod MessageLaws
pub mod Dispatch
