pub mod Made
pub mod Limits
pub mod Exact
