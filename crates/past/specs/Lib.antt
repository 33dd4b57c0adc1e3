pub mod Pasts
pub mod Promises
