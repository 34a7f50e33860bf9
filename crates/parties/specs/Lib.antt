pub mod Parties
pub mod Sound
pub mod Inner
