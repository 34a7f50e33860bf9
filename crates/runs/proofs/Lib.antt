-- Laws of lists of steps: Lends has what a step is lent and leaves, Exact that no step sees behind the edges, Runs that no step changes the hierarchy. Written has what cases by computation start from.
pub mod Lends
pub mod Exact
pub mod Runs
pub mod Written
