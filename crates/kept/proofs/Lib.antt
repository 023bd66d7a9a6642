-- That each promise leaves one outcome.
pub mod Unique
