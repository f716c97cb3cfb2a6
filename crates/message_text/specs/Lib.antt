pub mod Words
pub mod Properties
pub mod Fields
pub mod Lines
