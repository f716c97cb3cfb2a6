pub mod DoingLaws
pub mod HeedLaws
pub mod PieceLaws
pub mod HearLaws
