pub mod Quoted
pub mod Sets
pub mod inside
