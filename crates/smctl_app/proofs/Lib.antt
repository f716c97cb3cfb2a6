pub mod TalkLaws
pub mod WordLaws
