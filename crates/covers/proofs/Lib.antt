-- What the proofs of several functions, and of the layers above, use.
pub mod Bounds
pub mod Covers
