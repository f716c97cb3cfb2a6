pub mod CommandLemmas
pub mod LineLemmas
pub mod PartLemmas
pub mod TellingLemmas
pub mod Once
pub mod FollowLemmas
