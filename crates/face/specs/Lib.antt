-- What C is told, and what a call leaves in what it was lent. Promises, which each function cites, comes first; the files above it say its words.
-- To read: FaceLeft, FaceAnswer, FaceOpening, FaceMessages, FaceTransmit, FaceArrival, FacePeek, FaceAcknowledging, Promises. The rest are laws.
pub mod FaceLeft
pub mod FaceLeftLaws
pub mod FaceAnswer
pub mod FaceAnswerLaws
pub mod FaceOpening
pub mod FaceOpeningLaws
pub mod FaceMessages
pub mod FaceTransmit
pub mod FaceArrival
pub mod FacePeek
pub mod FaceAcknowledging
pub mod FaceAcknowledgingLaws
pub mod Promises
