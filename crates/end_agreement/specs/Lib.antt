pub mod Sides
pub mod Hearing
pub mod Meeting
pub mod Laws
