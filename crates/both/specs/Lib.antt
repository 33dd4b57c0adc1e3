pub mod Both
pub mod Tallies
