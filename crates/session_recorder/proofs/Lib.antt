pub mod Behind
pub mod Naming
pub mod Noting
