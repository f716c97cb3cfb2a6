pub mod WordLaws
pub mod RuleLaws
pub mod FileLaws
