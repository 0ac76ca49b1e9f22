-- Words of private functions alone. No public contract cites them.
pub mod Filling
pub mod Gathering
pub mod Giving
pub mod Settling
