pub mod Script
pub mod Standing
pub mod Laws
pub mod Doing
pub mod Hearing
