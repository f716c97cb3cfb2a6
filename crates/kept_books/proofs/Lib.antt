pub mod Points
pub mod Sifting
pub mod Keeping
