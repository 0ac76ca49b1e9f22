-- Of private functions.
pub mod Marks
