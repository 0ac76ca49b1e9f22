pub mod Bools
pub mod Bounds
pub mod Codes
pub mod Counts
pub mod Depth
mod Examples
pub mod Flat
pub mod Growth
pub mod Marking
mod Names
pub mod Reaching
pub mod Rows
pub mod Standings
pub mod Walk
mod RuleFinds
mod Parts
pub mod Search
