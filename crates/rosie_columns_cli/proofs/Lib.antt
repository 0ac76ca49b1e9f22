pub mod Absent
pub mod Calls
pub mod Causes
pub mod LastLines
pub mod Marks
pub mod Reading
pub mod Objects
pub mod Sequence
