pub mod Bits
pub mod Nodes
pub mod Stores
pub mod Joinings
pub mod Fills
pub mod Spans
pub mod Calls
pub mod Plains
