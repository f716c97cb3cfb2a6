pub mod Sending
pub mod WindowLaws
pub mod Listing
pub mod Leaving
pub mod Coming
pub mod Naming
pub mod Fitting
