-- What the proofs of every layer use.
pub mod Std
pub mod Chains
pub mod Bools
pub mod Refusals
pub mod Numbers
pub mod Members
pub mod Marks
pub mod Passes
pub mod Loops
pub mod Bounded
pub mod Distinct
pub mod Parts
pub mod Kept
