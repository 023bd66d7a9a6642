-- The record where it lies: what a head and the words of its tables show, and the head of a record.
-- To read: Shown. The rest are laws.
pub mod Shown
pub mod ShownLaws
