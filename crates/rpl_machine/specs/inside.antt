pub mod States
pub mod Trees
pub mod Lists
pub mod Progress
pub mod Turns
pub mod Local
pub mod Memos
pub mod Endings
