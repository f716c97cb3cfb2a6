pub mod Parting
pub mod Places
pub mod Names
pub mod Refusals
pub mod Sockets
pub mod Entries
pub mod Choice
pub mod Laws
