-- Words of private functions alone. No public contract cites them.
pub mod Rounds
