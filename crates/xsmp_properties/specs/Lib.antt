pub mod Tables
pub mod Readers
pub mod Named
pub mod Sizes
