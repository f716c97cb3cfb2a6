pub mod Layout
pub mod Recovery
pub mod Turns
pub mod Causes
pub mod Faults
pub mod Laws
