pub mod Commands
pub mod Programs
pub mod Lines
pub mod Told
pub mod Reads
pub mod Tellers
pub mod Follows
