pub mod WordLaws
pub mod HeedLaws
pub mod HearLaws
pub mod EndLaws
pub mod SuccessLaws
