pub mod Discards
