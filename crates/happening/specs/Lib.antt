-- Any event, over the record by value: what it tells and leaves, and that this shows what the definition says.
-- To read: TableTold, TableHappening, EventShown. The rest are laws.
pub mod TableTold
pub mod TableHappening
pub mod TableHappeningLaws
pub mod EventShown
pub mod EventShownLaws
pub mod TableWideLaws
