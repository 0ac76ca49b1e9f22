pub mod Spelling
pub mod Laws
pub mod Compiled
pub mod inside
