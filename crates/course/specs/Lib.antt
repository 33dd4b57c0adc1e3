pub mod Booked
pub mod Course
pub mod Lots
pub mod Sampled
