-- What the proofs of several functions use; the crates above cite Writes.
mod Words
pub mod Writes
