pub mod Shown
pub mod Kept
pub mod Answers
pub mod Bare
pub mod Known
pub mod inside
