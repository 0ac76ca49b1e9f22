-- Words of private functions alone. No public contract cites them.
pub mod Levels
pub mod Seen
pub mod Standing
pub mod Tasks
pub mod Steps
pub mod Lines
