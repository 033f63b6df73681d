pub mod Arithmetic
pub mod Fields
pub mod Addresses
pub mod Usage
