-- What a host keeps and hands over, without an enum.
-- To read: Flags, Parts, Kept, Word, Cause. The rest are laws.
pub mod Flags
pub mod FlagsLaws
pub mod Parts
pub mod Kept
pub mod KeptLaws
pub mod Word
pub mod Cause
