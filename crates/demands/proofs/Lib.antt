-- The laws that rest on what a call asks of the receiving side (specs/Heard.antt) and on what the host is told (specs/News.antt): they stand here, so that an
-- edit of either is refused by them.
pub mod HeardChunkLaws
pub mod HeardPacketLaws
pub mod BridgeLaws
pub mod StretchLaws
pub mod HostDemandLaws
pub mod Example
