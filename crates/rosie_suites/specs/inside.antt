-- Words of private functions alone. No public contract cites them.
pub mod Ready
pub mod Steps
pub mod Entries
pub mod Running
