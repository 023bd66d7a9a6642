-- A message handed in over head and lent tables.
-- To read: MessageWords. The rest are laws.
pub mod HandingLaws
pub mod MessageWords
pub mod MessageWordsLaws
