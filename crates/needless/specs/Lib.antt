pub mod Waits
pub mod Inner
