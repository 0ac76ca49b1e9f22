pub mod Facts
pub mod Tests
pub mod Groups
pub mod Laws
pub mod inside
