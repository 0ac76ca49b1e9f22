pub mod Equals
mod Examples
pub mod Replaced
