pub mod Pages
pub mod Checks
pub mod Joining
