pub mod Files
pub mod Memory
pub mod Plans
pub mod Saving
