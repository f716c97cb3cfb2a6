pub mod Splitting
pub mod LineCuts
pub mod Meanings
pub mod Refusals
pub mod Again
pub mod Listing
pub mod FirstBad
