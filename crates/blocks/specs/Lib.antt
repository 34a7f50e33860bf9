pub mod Record
pub mod Block
pub mod File
pub mod Inner
