pub mod Seen
pub mod Counted
pub mod Joins
pub mod Reach
pub mod Standing
pub mod InnerCounts
