pub mod Tallies
pub mod Totals
pub mod Exactly
