pub mod Prepared
pub mod Answers
pub mod Views
pub mod Laws
pub mod Lines
pub mod Texts
pub mod Steps
