-- What a message is, and that a take gives the first that can be taken. To read: Meant, then Given, before holding's Message and Taking; then what the
-- laws say: RunLaws of the search (`found-message`, `message-found`), and in proofs/ MeantLaws of the choice (`chosen-first`, `chosen_none`, `first-only`),
-- GivenLaws of a take's answers. Example, there too, shows that the premises can be met.
pub mod Meant
pub mod Given
pub mod RunLaws
