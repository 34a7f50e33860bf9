-- Turns: steps performed one after the other. Puts: value records written. Shapes: an accepted file as cutting finds it. Cuts: what cutting answers and leaves.
pub mod Turns
pub mod Puts
pub mod Shapes
pub mod Cuts
