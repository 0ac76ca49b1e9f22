pub mod Equals
pub mod Folders
pub mod Lookups
pub mod Memory
pub mod Numbers
pub mod Walk
