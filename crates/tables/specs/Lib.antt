-- The tables of a record as words that are lent: what the words show, and what a place that is put leaves.
-- To read: HeldWords, Ssns, PlaceWords, PlaceStates. The rest are laws.
pub mod WordsLaws
pub mod OpenLaws
pub mod HeldWords
pub mod HeldWordsLaws
pub mod Ssns
pub mod ZerosLaws
pub mod PlaceWords
pub mod PlaceWordsLaws
pub mod PlaceStates
