pub mod Records
pub mod Outcomes
pub mod Chunks
