pub mod Cutting
pub mod Tables
pub mod Alike
