pub mod Counted
pub mod Passed
pub mod Speeches
pub mod Streams
pub mod Walked
pub mod Alone
