-- Edges has that each refusal is right at its edge, with one theorem for each table.
pub mod Edges
