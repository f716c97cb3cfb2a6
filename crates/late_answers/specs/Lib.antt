pub mod LeaverLaws
pub mod Leavers
pub mod Late
pub mod Laws
pub mod Reached
