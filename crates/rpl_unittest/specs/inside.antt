-- Words of private functions alone. No public contract cites them.
pub mod Words
pub mod Nodes
