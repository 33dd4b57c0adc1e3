pub mod Bookings
pub mod Walks
pub mod Outcomes
pub mod Judging
