pub mod Building
mod Examples
pub mod Listing
pub mod Numbering
pub mod Offering
pub mod Rows
pub mod Within
