pub mod Errors
pub mod Offers
pub mod Setup
pub mod Laws
pub mod Opener
