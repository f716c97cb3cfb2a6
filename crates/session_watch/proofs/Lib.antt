pub mod Following
pub mod Lining
pub mod Noting
pub mod Spelled
pub mod Stories
