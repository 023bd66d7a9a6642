-- The calls of the host, but the arrival of a packet.
-- To read: Packet, Answer, Opening, Timers, Closing, Telling, Messages, Acknowledging, Peek, Transmit, Outcomes. The rest are laws.
pub mod Packet
pub mod PacketLaws
pub mod Answer
pub mod AnswerLaws
pub mod Opening
pub mod Timers
pub mod Closing
pub mod Telling
pub mod Messages
pub mod Acknowledging
pub mod AcknowledgingLaws
pub mod Peek
pub mod PeekLaws
pub mod Transmit
pub mod TransmitLaws
pub mod CallLaws
pub mod SoundLaws
pub mod LeftLaws
pub mod PortLaws
pub mod BookLaws
pub mod CallSizeLaws
pub mod Outcomes
pub mod OutcomesLaws
pub mod StreamLaws
pub mod MarkLaws
