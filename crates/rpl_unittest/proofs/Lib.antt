pub mod Types
pub mod Reading
mod Texts
mod Examples
pub mod Behind
mod Told
mod More
mod Short
pub mod Single
