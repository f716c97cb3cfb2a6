pub mod Hearing
pub mod Rehearsing
pub mod Printing
pub mod Ending
pub mod Excluding
pub mod Wording
