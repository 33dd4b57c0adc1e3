pub mod Numbers
pub mod Printed
pub mod Forms
pub mod Entries
pub mod Spelled
