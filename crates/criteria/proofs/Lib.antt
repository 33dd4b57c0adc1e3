pub mod Judged
pub mod Falls
