-- One theorem for each table.
pub mod Visits
pub mod Hierarchies
pub mod Files
pub mod Steps
pub mod Names
