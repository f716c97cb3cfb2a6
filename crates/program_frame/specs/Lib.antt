pub mod Untold
pub mod Input
pub mod Printing
pub mod Programs
pub mod Own
