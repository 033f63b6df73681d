pub mod Bytes
pub mod Operations
pub mod Exact
pub mod Single
pub mod Worked
