pub mod Numbering
pub mod Intervals
pub mod Build
pub mod Inner
