pub mod Answers
pub mod Script
pub mod Laws
pub mod Doing
pub mod Running
