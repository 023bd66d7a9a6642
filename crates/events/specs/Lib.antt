-- What can happen to an association, what the host is told of it, and what it leaves.
-- To read: Event, Told, Happening, EventRefusal. The rest are laws.
pub mod Event
pub mod EventLaws
pub mod Told
pub mod Happening
pub mod HappeningLaws
pub mod WideLaws
pub mod EventRefusal
pub mod EventRefusalLaws
pub mod HappenedLaws
pub mod BookLaws
