pub mod Scanned
pub mod Operators
pub mod Stack
pub mod Held
pub mod Signed
