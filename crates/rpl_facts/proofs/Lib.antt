pub mod Tests
pub mod Least
pub mod Exists
pub mod Settling
pub mod Ordering
pub mod Grouping
