-- Words of private functions alone. No public contract cites them.
pub mod Planning
pub mod CommandLines
pub mod Running
