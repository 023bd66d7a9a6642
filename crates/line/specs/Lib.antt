-- Demand 3: the circle agrees with the line. To read: Demand, and what it speaks of, Runs, Sender and Reduce; Builds, what it keeps out; in proofs/
-- AgreementLaws, the same over any profile and circles, with more of the line receiver, and Example, which shows that the premises can be met.
pub mod Demand
pub mod Builds
pub mod Runs
pub mod Sender
pub mod Reduce
pub mod Near
pub mod CountLaws
pub mod ChosenLaws
pub mod ContradictionsLaws
pub mod LineSoundLaws
pub mod ArrivesLaws
pub mod TakesLaws
pub mod WedgeLaws
pub mod SidedLaws
pub mod FreshLaws
