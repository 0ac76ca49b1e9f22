pub mod Plain
pub mod Behind
pub mod Hexadecimal
