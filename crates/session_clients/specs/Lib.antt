pub mod Clients
pub mod Ids
pub mod Rows
