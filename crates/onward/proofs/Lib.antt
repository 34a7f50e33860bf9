-- A run that goes on where nobody holds or waits (02, point 9). Theorems: Onward (it goes on as from a fresh desk), Sums (the counts of grants add up). Alike (steps do not look at the
-- counts) and Idle (the desk is a fresh one but for its counts) have what these rest on, and are theorems too.
pub mod Alike
pub mod Idle
pub mod Onward
pub mod Sums
