pub mod Size
pub mod Words
