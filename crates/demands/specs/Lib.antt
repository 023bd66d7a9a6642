-- Demand 3 for the host's own calls. To read: HostDemand, then what it speaks of, Stretch, News and Heard. The bridge below it is proofs/BridgeLaws
-- (`call-heard`): what a call asks of the receiving side is what it does to that side, and what the host is told of it. Example, there too, shows that the
-- premises can be met.
pub mod HostDemand
pub mod Stretch
pub mod News
pub mod Heard
pub mod HeardLaws
