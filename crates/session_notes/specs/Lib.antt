pub mod Notes
pub mod Watching
pub mod Keeping
pub mod Laws
pub mod Kept
pub mod Opening
pub mod Examples
