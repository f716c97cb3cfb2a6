pub mod Peers
pub mod Pieces
pub mod Memory
