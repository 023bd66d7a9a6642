-- The laws that rest on what an event does (specs/Runs.antt) and on how the line is brought back onto the circle (specs/Reduce.antt): they stand here, so that
-- an edit of either is refused by them.
pub mod AgreeLaws
pub mod SequenceLaws
pub mod PayloadsLaws
pub mod AgreementLaws
pub mod Example
pub mod DemandLaws
pub mod BuildsLaws
