pub mod Loading
pub mod Replay
pub mod Where
pub mod Asked
pub mod Runs
pub mod Limits
pub mod Laws
pub mod inside
