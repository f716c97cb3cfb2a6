pub mod Pairing
pub mod Beginning
