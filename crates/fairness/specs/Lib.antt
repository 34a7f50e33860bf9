pub mod AnySteps
pub mod Ahead
pub mod Rules
