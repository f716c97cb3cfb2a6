pub mod Completing
pub mod Following
pub mod RuleLaws
pub mod LineLaws
pub mod ProgramLaws
