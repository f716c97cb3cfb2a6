pub mod Driven
pub mod Acting
pub mod Short
pub mod Kept
