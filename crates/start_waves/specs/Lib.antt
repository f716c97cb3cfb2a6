pub mod Laws
pub mod Priorities
pub mod Ranks
pub mod Waves
