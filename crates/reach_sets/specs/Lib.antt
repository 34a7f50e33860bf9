pub mod Sets
pub mod Plain
pub mod Inner
