pub mod Growing
pub mod Ranges
pub mod Swapping
pub mod Written
pub mod Appending
pub mod Appended
