pub mod Visits
pub mod Figures
