pub mod Writing
pub mod Journal
