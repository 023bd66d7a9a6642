-- The receiving side by value, with its tables.
-- To read: Incoming.
pub mod Incoming
