pub mod Fit
pub mod LetGo
pub mod Parted
pub mod Placed
pub mod Plain
pub mod Standing
