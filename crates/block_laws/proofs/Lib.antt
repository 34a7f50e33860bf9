-- The two round trips of block files: Laws has the theorems; Pieces, OneBlock and ManyBlocks what they rest on. ByKind: the table of kinds, spelt out.
pub mod Pieces
pub mod ByKind
pub mod OneBlock
pub mod ManyBlocks
pub mod Laws
