pub mod Runs
pub mod Bounds
pub mod Fits
pub mod Files
pub mod Parts
