pub mod Calls
pub mod Ledger
