-- The receiving side over tables of words: the record that the words show, and the words that each call leaves.
-- To read: Reception. The rest are laws.
pub mod Reception
pub mod ReceptionLaws
pub mod NoteLaws
pub mod ReadLaws
