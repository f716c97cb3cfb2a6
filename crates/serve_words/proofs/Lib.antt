pub mod Fronts
pub mod Adding
pub mod Going
pub mod Steps
pub mod Saying
