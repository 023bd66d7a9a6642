-- Every kind of chunk, written and read, and read and written; that no reader sees padding; a packet, written and read. RoundTrips says what
-- is shown.
pub mod RoundTrips
pub mod WrittenLaws
pub mod AgainLaws
pub mod PaddingLaws
pub mod PacketLaws
pub mod BothWaysLaws
