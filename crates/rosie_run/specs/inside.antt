-- Words of private functions alone. No public contract cites them.
pub mod Going
pub mod Showing
pub mod Where
pub mod Writing
