pub mod Marks
pub mod Closed
pub mod Least
