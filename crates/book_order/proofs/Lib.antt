pub mod Filters
pub mod Beside
pub mod Entries
pub mod Neighbours
pub mod Ordering
pub mod Sizing
