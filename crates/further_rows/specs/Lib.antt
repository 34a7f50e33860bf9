pub mod Hierarchies
pub mod Files
pub mod Visits
pub mod Steps
pub mod Names
