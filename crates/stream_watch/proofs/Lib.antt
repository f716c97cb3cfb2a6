pub mod Beginning
pub mod Once
pub mod Shown
pub mod Unseen
