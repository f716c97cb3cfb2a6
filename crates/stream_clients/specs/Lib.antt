pub mod Taking
pub mod Clients
pub mod Following
