pub mod Bytes
pub mod Fletcher
pub mod Writes
