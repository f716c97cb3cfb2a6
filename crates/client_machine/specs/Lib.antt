pub mod Phases
pub mod Saves
pub mod Taking
pub mod Asking
pub mod Laws
