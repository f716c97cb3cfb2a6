pub mod Words
pub mod Findings
pub mod Refusals
pub mod Lines
pub mod Sessions
pub mod Tokens
