pub mod OneLine
pub mod Shown
pub mod Alike
pub mod Traced
pub mod Allowed
mod Agreeing
pub mod One
pub mod Written
pub mod Told
pub mod SomeLoading
pub mod Staying
pub mod TraceParts
pub mod SampleShort
pub mod SampleLimits
pub mod SampleOnward
