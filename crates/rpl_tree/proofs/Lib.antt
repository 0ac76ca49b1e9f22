mod Fronts
pub mod Trees
