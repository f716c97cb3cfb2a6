pub mod Arrivals
pub mod Clocks
pub mod Untold
