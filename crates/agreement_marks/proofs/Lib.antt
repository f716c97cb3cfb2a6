pub mod Since
pub mod Written
