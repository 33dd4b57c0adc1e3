pub mod Piles
pub mod Settled
pub mod Meets
