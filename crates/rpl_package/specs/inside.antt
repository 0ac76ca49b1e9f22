-- Words of the private contracts: nothing here is needed to read what the crate promises.
pub mod Asked
pub mod Following
pub mod Kept
pub mod Leaving
pub mod Marks
pub mod Noted
pub mod Opening
pub mod Reading
pub mod Rooting
pub mod Stopping
pub mod Taken
