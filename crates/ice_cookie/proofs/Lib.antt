pub mod Differences
pub mod AuthorityLaws
