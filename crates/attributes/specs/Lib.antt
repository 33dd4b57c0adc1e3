pub mod Counts
pub mod Marks
pub mod Laws
pub mod Tested
