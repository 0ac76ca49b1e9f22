pub mod Sizes
pub mod Inlining
pub mod Forms
pub mod Table
pub mod Rows
pub mod Counting
