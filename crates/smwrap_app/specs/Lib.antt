pub mod Words
pub mod Faults
pub mod Running
pub mod Turning
pub mod Copies
pub mod Statuses
pub mod Starting
