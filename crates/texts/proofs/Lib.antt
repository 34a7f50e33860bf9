pub mod Puts
pub mod Counts
