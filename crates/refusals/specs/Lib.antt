-- What a refusal leaves, and that bounds are kept, of all that a host keeps and lends to the functions that it links: word for word. Refusals says it, RefusalsLaws shows it.
-- To read: Refusals. The rest are laws.
pub mod Refusals
pub mod ServedLaws
pub mod CallLaws
pub mod RowLaws
pub mod PacketLaws
pub mod BoundsLaws
pub mod RefusalsLaws
