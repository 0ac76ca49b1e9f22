pub mod Kinds
pub mod Sets
pub mod Casings
pub mod Uses
pub mod Macros
pub mod Laws
