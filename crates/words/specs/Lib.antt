pub mod Fields
pub mod Words
pub mod Rebuilding
pub mod Code
