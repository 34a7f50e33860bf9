pub mod Run
pub mod Over
