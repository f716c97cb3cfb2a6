pub mod MessageLaws
pub mod Dispatch
pub mod ViewLaws
pub mod HeadLaws
