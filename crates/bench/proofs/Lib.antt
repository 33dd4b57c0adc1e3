pub mod Shows
pub mod Written
pub mod Edits
pub mod Follows
