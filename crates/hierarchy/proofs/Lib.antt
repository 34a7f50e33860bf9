-- What the proofs of several functions, and of the layers above, use.
pub mod EdgeLoops
pub mod Reaches
pub mod Legals
pub mod Pairs
pub mod Spreads
pub mod Unions
