-- Starred has the one theorem over the starred cases.
pub mod Starred
