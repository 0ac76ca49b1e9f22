pub mod Causes
pub mod Loops
pub mod Faults
pub mod Blocks
pub mod Answers
pub mod Checked
pub mod Goal
pub mod inside
