-- What holds of every step. Theorems: Laws (a refused step changes nothing), Kept (a sound desk stays sound), NeverTen (no step of a list is refused with 10),
-- Covers (what cover an enter takes), Seen (a visit sees just the reach of the records that it named), Scratch (what is left in the scratch of the search), Given (each hold
-- and each waiting call keeps the names of its party's last enter). Numbers, Named, Orderly and Changes have what these rest on.
pub mod Numbers
pub mod Laws
pub mod Orderly
pub mod Changes
pub mod Covers
pub mod Named
pub mod Kept
pub mod NeverTen
pub mod Scratch
pub mod Seen
pub mod Given
