-- Of private functions.
pub mod Reading
pub mod Tables
