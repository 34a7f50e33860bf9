pub mod Desks
pub mod Sound
pub mod Steps
pub mod Link
pub mod Answers
pub mod Inner
