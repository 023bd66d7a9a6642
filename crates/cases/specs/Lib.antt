-- C1 to C13 of 01. To read: Table, and what it speaks of, Case.
pub mod Case
pub mod Table
