-- What a SACK, misses and T3 leave in a lent table of places.
-- Laws alone.
pub mod SkipLaws
pub mod MarkingLaws
