pub mod Entries
pub mod Rules
pub mod Joining
pub mod Lines
pub mod Faults
pub mod Statuses
pub mod Completeness
