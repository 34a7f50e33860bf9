-- What every legal hierarchy promises, and what holds of bounds and cover of a call over any table: Laws and Covers have the theorems, Numbers what they
-- rest on of the numbering. Scratch has those of the scratch that building is lent.
pub mod Numbers
pub mod Laws
pub mod Scratch
pub mod Covers
