-- Words of the private contracts: nothing here is needed to read what the crate promises.
pub mod Gives
pub mod Low
pub mod Read
pub mod Refusals
pub mod Roles
pub mod Stacks
pub mod Statements
pub mod Walked
pub mod Lines
