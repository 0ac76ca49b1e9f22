pub mod Safe
pub mod Laws
pub mod inside
