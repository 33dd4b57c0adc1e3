pub mod Commas
pub mod Formless
pub mod Rows
pub mod Spelling
pub mod Spelt
