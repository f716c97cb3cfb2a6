pub mod Shelves
pub mod Names
pub mod Laws
