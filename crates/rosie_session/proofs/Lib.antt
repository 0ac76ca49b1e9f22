pub mod Sessions
pub mod OneLoad
pub mod Lines
pub mod Passing
pub mod Told
pub mod Turns
pub mod Pegs
pub mod Paying
