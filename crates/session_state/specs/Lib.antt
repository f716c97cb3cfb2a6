pub mod Session
pub mod Stands
pub mod Examples
