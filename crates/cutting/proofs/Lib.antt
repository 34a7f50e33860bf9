-- Parts: kinds of records. Orders: the records that reading takes. Doing: the values of a run. Sizes: a cut has no more records. Writing: so writing them is not refused.
pub mod Parts
pub mod Orders
pub mod Doing
pub mod Sizes
pub mod Writing
