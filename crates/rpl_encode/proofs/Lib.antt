pub mod Texts
pub mod Escaping
pub mod Nodes
pub mod Walking
pub mod Listing
pub mod Digits
pub mod FirstTrees
pub mod Styles
