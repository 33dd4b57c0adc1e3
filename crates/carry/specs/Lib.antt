pub mod Drums
pub mod Booking
pub mod Carrying
pub mod Judged
pub mod Printed
