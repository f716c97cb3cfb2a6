pub mod InputLemmas
pub mod WordLemmas
pub mod ProgramLemmas
