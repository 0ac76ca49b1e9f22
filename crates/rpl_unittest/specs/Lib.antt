pub mod Comments
pub mod Seen
pub mod Verdicts
pub mod Lines
pub mod Faults
pub mod Laws
pub mod inside
