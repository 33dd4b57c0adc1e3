pub mod Faults
pub mod Located
pub mod Printed
