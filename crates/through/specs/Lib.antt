pub mod Through
pub mod Passings
