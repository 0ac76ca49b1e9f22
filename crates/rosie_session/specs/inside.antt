-- Words of private functions alone. No public contract cites them.
pub mod Turning
pub mod Passing
