pub mod Places
pub mod Orders
pub mod Runs
pub mod Wholes
pub mod Firsts
