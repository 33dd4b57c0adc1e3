pub mod Carrying
pub mod Right
