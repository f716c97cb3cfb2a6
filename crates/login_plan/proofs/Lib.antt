pub mod Ruled
pub mod Lawful
