pub mod Requests
pub mod Places
pub mod Parts
pub mod Replies
pub mod Setups
pub mod Laws
