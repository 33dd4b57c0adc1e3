pub mod Table
pub mod Order
pub mod Reading
pub mod First
pub mod Sheets
pub mod Rules
