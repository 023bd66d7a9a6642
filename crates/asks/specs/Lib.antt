-- The calls of the host over head and tables: what they answer and leave, and that it is what `calls` says of the record that head and tables show.
-- To read: TableAnswer, TableOpening, TableTimers, TableMessages, TableAcknowledging, TableTransmit. The rest are laws.
pub mod TableAnswer
pub mod TableAnswerLaws
pub mod TableOpening
pub mod TableOpeningLaws
pub mod TableTimers
pub mod TableTimersLaws
pub mod TableMessages
pub mod TableMessagesLaws
pub mod TableAcknowledging
pub mod TableAcknowledgingLaws
pub mod TableTransmit
pub mod TableTransmitLaws
pub mod BesideLaws
pub mod ReplyLaws
