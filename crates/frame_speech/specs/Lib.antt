pub mod Passing
pub mod Settings
pub mod Speech
pub mod Streams
pub mod Words
