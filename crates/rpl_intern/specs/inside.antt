-- Words of private functions alone. No public contract cites them.
pub mod Numbers
pub mod Pieces
pub mod Uses
