pub mod Evaluations
pub mod Kinds
pub mod Laws
pub mod Left
pub mod Printed
pub mod Traces
pub mod inside
