pub mod Sifted
pub mod Placed
pub mod Kept
pub mod Told
pub mod Beginnings
