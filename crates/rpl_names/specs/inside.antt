-- Words of the private contracts: nothing here is needed to read what the crate promises.
pub mod Listing
