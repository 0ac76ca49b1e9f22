pub mod Loads
pub mod Passing
pub mod OneAnswer
pub mod SomeAnswer
pub mod Characters
pub mod Told
