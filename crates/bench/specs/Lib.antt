pub mod Checksums
pub mod Benches
pub mod Setups
pub mod Calls
pub mod Hex
