pub mod Measures
pub mod Memory
pub mod Growth
