-- Words of private functions alone. No public contract cites them.
pub mod Bases
pub mod Items
pub mod Scopes
pub mod Statements
