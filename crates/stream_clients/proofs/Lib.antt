pub mod Receiving
pub mod Stepping
pub mod Pieces
