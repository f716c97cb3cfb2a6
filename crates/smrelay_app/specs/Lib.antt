pub mod Words
pub mod FaultLines
pub mod Rehearsals
pub mod Serving
pub mod Statuses
pub mod Exclusions
