-- Nobody is passed over (02, point 8). Theorems: Fairness (a call that waits, those ahead of it, their leaves), Visits (who leaves and comes back), Hosts (the same over one
-- hierarchy, and of a host's own calls), Shams (false with other rules). Worked has cases by computation. Queues and Behind have what these rest on: the order of
-- the arrival list, and what every step keeps of a waiting party.
pub mod Queues
pub mod Visits
pub mod Behind
pub mod Fairness
pub mod Hosts
pub mod Written
pub mod Shams
pub mod Worked
