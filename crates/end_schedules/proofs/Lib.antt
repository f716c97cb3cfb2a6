pub mod Steady
pub mod Rules
pub mod Replies
pub mod Runs
pub mod Standing
pub mod Own
pub mod Folds
pub mod Companies
