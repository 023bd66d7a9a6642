-- The laws that rest on how long what is sent may be (specs/Sent.antt): they stand here, so that an edit of that is refused by them.
pub mod PassesLaws
pub mod SentLaws
pub mod MarkedLaws
