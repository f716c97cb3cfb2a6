pub mod Parts
pub mod Lines
pub mod Fields
pub mod Orders
pub mod Script
pub mod Traces
pub mod Laws
