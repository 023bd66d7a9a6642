-- A packet over a head and lent tables: the words of its verdicts, its chunks one by one, what it leaves, and what that shows.
-- To read: Verdicts, TableWalk, Landing. The rest are laws.
pub mod Verdicts
pub mod VerdictsLaws
pub mod TableWalk
pub mod TableWalkLaws
pub mod Landing
pub mod LandingLaws
pub mod LandingShowLaws
