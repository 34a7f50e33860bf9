pub mod Cases
pub mod Table
pub mod Rows
pub mod Desks
