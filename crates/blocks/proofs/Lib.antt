-- What the proofs of several functions use; the theorems of the crate block_laws cite some of it.
pub mod Rows
pub mod Stages
mod Copies
pub mod Making
pub mod Answers
