pub mod Watching
pub mod Visiting
