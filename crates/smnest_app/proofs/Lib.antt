pub mod Wording
pub mod Heard
pub mod Rehearsing
pub mod Printing
pub mod Ending
pub mod SessionLemmas
pub mod Excluding
