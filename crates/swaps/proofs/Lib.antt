-- Neighbours may swap (02, point 10). Theorems: Swaps, Hosts (of a host's own calls), Shams (false with other rules). Worked has cases by computation. Accesses has what these rest on, what a get, put or add does, and Rearranged the
-- rearrangement of a list of anything.
pub mod Accesses
pub mod Rearranged
pub mod Swaps
pub mod Hosts
pub mod Shams
pub mod Worked
