-- The laws that rest on what the order of messages is (specs/Meant.antt): they stand here, so that an edit of it is refused by them.
pub mod MeantLaws
pub mod GivenLaws
pub mod Example
