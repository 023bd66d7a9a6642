-- How the head lies in memory, and that each promise leaves one outcome.
pub mod Sizes
pub mod Unique
