pub mod Static
pub mod Termination
pub mod Laws
