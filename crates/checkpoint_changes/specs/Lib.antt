pub mod Changes
pub mod Amendments
pub mod Plain
pub mod Laws
pub mod Parts
pub mod Together
pub mod Taking
pub mod Differences
