-- Demand 3: Serializable has the theorem, Rows the laws of the book, Facts which holders there are after a step and what an unrefused get, put or add knows,
-- Nested what it takes from the hierarchy and from a sound desk, Modes what each visit may do and that adds come out the same in either order,
-- Grants that the counts are of the order of granting, Numbers that each refusal has a number of the tables.
pub mod Rows
pub mod Facts
pub mod Modes
pub mod Nested
pub mod Serializable
pub mod Numbers
pub mod Results
pub mod Grants
