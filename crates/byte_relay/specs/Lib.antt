pub mod Turning
pub mod Respelling
pub mod Orders
pub mod Relaying
pub mod Rows
pub mod Serving
pub mod Sides
pub mod Steps
