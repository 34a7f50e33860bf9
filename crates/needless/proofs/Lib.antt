pub mod Names
pub mod Ways
pub mod Tallies
pub mod Files
