-- Words of the private contracts: nothing here is needed to read what the crate promises.
pub mod Walk
pub mod Children
pub mod Captured
pub mod Fronts
pub mod Escapes
