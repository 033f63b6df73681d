pub mod Bits
pub mod Mays
