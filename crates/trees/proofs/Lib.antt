-- What holds of every tree: Trees has the theorems; Parents, of ways where no node has several parents, and Blocks, of the walk, have what they rest on.
pub mod Parents
pub mod Blocks
pub mod Trees
