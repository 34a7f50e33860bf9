pub mod Locks
pub mod Stages
pub mod Lent
pub mod Inner
