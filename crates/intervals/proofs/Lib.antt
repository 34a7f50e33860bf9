-- What the proofs of several functions, and of the layers above, use.
pub mod Among
pub mod Found
pub mod Walks
pub mod Doubles
pub mod Relaxes
pub mod Tables
pub mod Extremes
pub mod Writes
pub mod Builds
