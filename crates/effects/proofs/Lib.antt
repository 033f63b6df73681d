pub mod Bytes
pub mod Masks
