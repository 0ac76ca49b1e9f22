-- Of private functions.
pub mod Sizes
pub mod Nodes
pub mod Taken
pub mod Written
pub mod Laid
pub mod Starts
