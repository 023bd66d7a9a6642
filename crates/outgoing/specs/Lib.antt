-- The sending side by value, with its tables.
-- To read: Outgoing.
pub mod Outgoing
