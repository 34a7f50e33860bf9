-- Files cut after k steps (02, point 9). Theorems: Laws, Serials, Whole. Cuts (what the records of a cut have) is what they rest on; Figures has small files, by computation.
pub mod Cuts
pub mod Laws
pub mod Serials
pub mod Whole
pub mod Figures
