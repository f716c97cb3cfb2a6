pub mod TalkLaws
pub mod GoingLaws
pub mod HeedLaws
pub mod HearLaws
pub mod DueLaws
pub mod AnswerLaws
pub mod StartLaws
pub mod CloseLaws
