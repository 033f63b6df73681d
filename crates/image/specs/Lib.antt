pub mod Files
pub mod Faults
pub mod Entries
pub mod Grants
pub mod Parts
pub mod Reading
