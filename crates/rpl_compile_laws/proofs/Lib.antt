pub mod Answering
pub mod Captures
pub mod Cases
pub mod Characters
mod Examples
pub mod Heads
pub mod NoHalt
pub mod OneTree
pub mod Onward
pub mod Places
pub mod Plain
pub mod Quiet
pub mod Shut
pub mod Simulation
pub mod Sound
pub mod Steps
pub mod Termination
pub mod Whole
