pub mod Texts
pub mod Answer
pub mod Labels
pub mod Print
pub mod inside
