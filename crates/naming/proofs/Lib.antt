pub mod Inserting
pub mod Gathering
pub mod Rising
pub mod Sorting
