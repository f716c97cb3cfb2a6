pub mod Lists
pub mod Cutting
