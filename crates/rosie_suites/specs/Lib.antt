pub mod Trials
pub mod Suites
pub mod Budgets
pub mod Limits
pub mod Tried
pub mod Seen
pub mod Laws
pub mod inside
