pub mod Share
pub mod Figures
