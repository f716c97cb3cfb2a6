pub mod Agreeing
pub mod DoingLaws
pub mod HeedLaws
pub mod OneEnd
pub mod PieceLaws
pub mod Quiet
pub mod RunLaws
