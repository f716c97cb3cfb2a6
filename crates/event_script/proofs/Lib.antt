pub mod ScriptLemmas
pub mod Excluding
