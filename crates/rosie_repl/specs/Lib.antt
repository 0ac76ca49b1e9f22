pub mod Edits
pub mod Outcomes
pub mod Seen
pub mod Session
pub mod States
pub mod inside
