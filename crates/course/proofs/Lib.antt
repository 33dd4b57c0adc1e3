pub mod Drums
pub mod Courses
pub mod Readings
pub mod Samples
