pub mod SetUps
pub mod Laws
pub mod Wires
