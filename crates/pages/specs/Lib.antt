-- The lines that programs read and write. To read: Reading, the words, numbers and bytes of a line; Page, how far a text is as it should be.
pub mod Reading
pub mod Page
pub mod ReadingLaws
pub mod PageLaws
