pub mod Freedom
pub mod Named
pub mod Joiners
pub mod Agents
