pub mod Ranges
pub mod Named
pub mod Folding
pub mod Faults
