-- What the proofs of several functions, and of the layers above, use.
pub mod Stages
pub mod Holders
pub mod Clauses
