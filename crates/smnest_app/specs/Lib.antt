pub mod Words
pub mod FaultLines
pub mod Rehearsals
pub mod Sessions
pub mod Statuses
pub mod Exclusions
