pub mod WordLaws
pub mod EffectLaws
pub mod ScriptLaws
pub mod RunLaws
pub mod CopyLaws
pub mod TellLaws
pub mod JoinLaws
pub mod ProgramLaws
