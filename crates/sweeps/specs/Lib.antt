pub mod Sweeps
pub mod Inner
