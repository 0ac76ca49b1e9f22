-- Words of private functions alone. No public contract cites them.
pub mod Reach
pub mod Behinds
pub mod Search
pub mod Accepted
pub mod Within
pub mod Ranks
pub mod Rings
