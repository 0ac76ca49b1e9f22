pub mod Counted
pub mod Levels
pub mod Texts
pub mod Walks
pub mod Standings
pub mod Leading
pub mod Bounds
pub mod States
pub mod Alone
pub mod Parts
pub mod Entering
pub mod Going
pub mod Reading
pub mod Rows
pub mod Whole
mod Examples
