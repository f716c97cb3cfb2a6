pub mod Rows
pub mod Entering
pub mod Refusing
pub mod Spelling
pub mod Wiring
