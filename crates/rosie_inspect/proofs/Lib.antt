pub mod Rows
mod Sorting
mod Grouping
mod Moving
mod Writing
pub mod Texts
pub mod Pieces
pub mod Tokens
pub mod Following
