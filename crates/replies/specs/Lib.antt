-- What any call sends passes our own checks 2, 3, 5 and 6, is no longer than it may be, and touches no byte behind.
-- To read: Sent, Reply. The rest are laws, and so are PassesLaws, SentLaws and MarkedLaws in proofs/.
pub mod Sent
pub mod Reply
pub mod PassingLaws
pub mod ReplyLaws
