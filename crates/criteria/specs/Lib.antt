pub mod Criteria
pub mod Known
pub mod Unknown
pub mod Student
pub mod Mean
