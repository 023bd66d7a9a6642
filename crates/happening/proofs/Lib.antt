-- What the record's type tells, and that each promise leaves one outcome.
mod Types
pub mod Unique
