pub mod Words
pub mod Script
pub mod Standing
pub mod Doing
pub mod Laws
pub mod Ends
