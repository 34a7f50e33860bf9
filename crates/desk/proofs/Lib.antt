-- What the proofs of several functions, and of the layers above, use.
pub mod Facts
pub mod Called
pub mod Judging
pub mod Answering
