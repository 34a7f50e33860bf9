-- Needless has the theorem, Counts the laws of the two numbers, Meets that a meeting of reaches may be read by sets or by pairs of nodes, Examples the figures. Names
-- and Ways have what Needless rests on.
pub mod Meets
pub mod Names
pub mod Ways
pub mod Needless
pub mod Counts
pub mod Examples
