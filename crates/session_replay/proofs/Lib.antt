pub mod ComparingLemmas
pub mod RerunLemmas
pub mod JudgingLemmas
pub mod Once
