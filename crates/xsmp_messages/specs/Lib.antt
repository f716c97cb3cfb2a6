pub mod Messages
pub mod Reading
pub mod Refusals
pub mod Views
