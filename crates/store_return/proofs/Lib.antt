pub mod Counted
pub mod Exchanging
pub mod Carrying
